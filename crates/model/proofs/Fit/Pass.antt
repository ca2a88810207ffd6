-- A pass through a transaction against its text: where it stands, and the next command.
use Prim.Native.Nat.{ℕ, ◌≤◌}
use mathlib.Core.Path.{◌≡◌, refl, sym, ◌∙◌, ap, subst}
use mathlib.Core.Bool.{true, not, ◌&&◌, true≢false}
use mathlib.Core.List.{List, [], ◌∷◌}
use native.Mathlib.Omega.{arith}
use lib.ListN.{length}
use Rattle.model.specs.Command.{Access, GET, PUT, Inside, access, COMMIT, BodyCommand, LOAD, ADD, outside, inside, body}
use Rattle.model.specs.Fault.{Body, Known, among, none?}
use Rattle.model.specs.Sheet.{after, in_body, waiting, named, after_body, after_inside}
use Rattle.model.specs.Exchange.{Entry}
use Rattle.model.specs.Job.{Touched, Transaction, Inner}
use Rattle.model.specs.Transaction.{fresh_transaction}
use Rattle.model.proofs.Fit.Elements.{and_right, include_more, include-size}
use Rattle.model.proofs.Fit.Body.{InsideFits, Faultless, CommandFits, command_fits}
use Rattle.model.proofs.Fit.Transaction.{named_inside, copied?, named_by, named_so_far}
use Rattle.model.proofs.Fit.Transaction.{BlocksFit, InTransaction, BegunFit, InnerFit, TransactionFit}
use Rattle.model.proofs.Fit.Blocks.{count_most, touched-most, blocks-none, blocks-named}
use Rattle.model.proofs.Fit.Outside.{open_next}

-- a transaction at work, whatever its inner step
pub record PassFit (words blocks : ℕ) (l : List BodyCommand) (x : Transaction) : Type 0 where
  pub kept : length x.kept ≡ 8
  pub begun : BegunFit words blocks x.commands
  pub known : Known
  pub inside : InTransaction words blocks known
  pub faultless : Faultless known l
  pub touched : BlocksFit blocks (named_so_far l known.body) x.blocks x.used

-- THE TEXT: at most eight blocks named and four of them PUT, the access at work counted
pub record NamedFit (b : Body) : Type 0 where
  pub touched : length b.touched ≤ 8
  pub puts : length b.puts ≤ 4

module _ {words blocks : ℕ} {k : Known} (i : InTransaction words blocks k) where
  as_before : NamedFit k.body
  as_before = record { touched = i.touched; puts = i.puts }

  named-inside : (c : Inside) → InsideFits blocks k.body c → NamedFit (named_inside c k.body)
  named-inside (access (GET r n o)) f = record { touched = include-size 8 n k.body.touched i.touched f.room_touched; puts = i.puts }
  named-inside (access (PUT n o r)) f =
      record { touched = include-size 8 n k.body.touched i.touched f.room_touched; puts = include-size 4 n k.body.puts i.puts f.room_puts }
  named-inside COMMIT f = as_before

  named-by : (c : BodyCommand) → CommandFits words blocks k.body c → NamedFit (named_by c k.body)
  named-by (LOAD r v) f = as_before
  named-by (ADD r q) f = as_before
  named-by (outside c) f = as_before
  named-by (inside c) f = named-inside c f.fits

  pub first-command : (c : BodyCommand) (l : List BodyCommand) → Faultless k (c ∷ l) → CommandFits words blocks k.body c
  first-command c l f = command_fits k words blocks i.opened c f.faultless

  pub named_fit : (l : List BodyCommand) → Faultless k l → NamedFit (named_so_far l k.body)
  named_fit [] f = as_before
  named_fit (c ∷ l) f = named-by c (first-command c l f)

  -- a transaction does not end before COMMIT
  pub not-over : Faultless k [] → ⊥
  not-over f = true≢false (sym (and_right (not k.body.empty && none? k.body.pairs) (not k.body.inside) f) ∙ ap not i.inside)

-- naming more blocks forgets none
named_more : (a : Access) (b : Body) (n : ℕ) → among n b.touched ≡ true → among n (named a b).touched ≡ true
named_more (GET r m o) b n e = include_more n m b.touched e
named_more (PUT m o r) b n e = include_more n m b.touched e

puts_more : (a : Access) (b : Body) (n : ℕ) → among n b.puts ≡ true → among n (named a b).puts ≡ true
puts_more (GET r m o) b n e = e
puts_more (PUT m o r) b n e = include_more n m b.puts e

blocks-by : {blocks used : ℕ} {b : Body} {ts : List Touched} (c : BodyCommand) → BlocksFit blocks b ts used → BlocksFit blocks (named_by c b) ts used
blocks-by {b = b} (inside (access a)) f = blocks-named (named_more a b) (puts_more a b) f
blocks-by (inside COMMIT) f = f
blocks-by (LOAD r v) f = f
blocks-by (ADD r q) f = f
blocks-by (outside c) f = f

blocks_so_far : {blocks used : ℕ} {b : Body} {ts : List Touched} (l : List BodyCommand) → BlocksFit blocks b ts used
    → BlocksFit blocks (named_so_far l b) ts used
blocks_so_far [] f = f
blocks_so_far (c ∷ l) f = blocks-by c f

-- THE NEXT COMMAND
module _ {words blocks : ℕ} {x : Transaction} where
  -- the text after a command whose body is then b
  pass_on : {c : BodyCommand} {l : List BodyCommand} (f : PassFit words blocks (c ∷ l) x) (b : Body) → after f.known (body c) ≡ in_body f.known b
      → b.inside ≡ true → b.pairs ≡ [] → NamedFit b → BlocksFit blocks b x.blocks x.used → PassFit words blocks l x
  pass_on {c} {l} f b e i ps s ts =
      record {
        kept = f.kept;
        begun = f.begun;
        known = in_body f.known b;
        inside = record { opened = open_next b f.inside.opened; inside = i; pairs = ps; touched = s.touched; puts = s.puts };
        faultless = subst (λ (k : Known). Faultless k l) e f.faultless.others;
        touched = blocks_so_far l ts;
      }

  same_body : {c : BodyCommand} {l : List BodyCommand} (f : PassFit words blocks (c ∷ l) x)
      → after f.known (body c) ≡ in_body f.known (waiting f.known.body.pairs f.known.body)
      → BlocksFit blocks f.known.body x.blocks x.used → PassFit words blocks l x
  same_body f e ts =
      pass_on f (waiting f.known.body.pairs f.known.body) e f.inside.inside f.inside.pairs
      (record { touched = f.inside.touched; puts = f.inside.puts })
      (blocks-named (λ n m. m) (λ n m. m) ts)

  pub pass_load : {r v : ℕ} {l : List BodyCommand} → PassFit words blocks (LOAD r v ∷ l) x → PassFit words blocks l x
  unfolding after after_body after_inside
  pass_load f = same_body f refl f.touched

  pub pass_add : {r q : ℕ} {l : List BodyCommand} → PassFit words blocks (ADD r q ∷ l) x → PassFit words blocks l x
  unfolding after after_body after_inside
  pass_add f = same_body f refl f.touched

  pub pass_access : {a : Access} {l : List BodyCommand} → PassFit words blocks (inside (access a) ∷ l) x → PassFit words blocks l x
  unfolding after after_body after_inside
  pass_access {a} {l} f =
      pass_on f (named a f.known.body) refl (inside-named a) (pairs-named a) (named_fit f.inside (inside (access a) ∷ l) f.faultless)
      f.touched
    where
      inside-named : (a : Access) → (named a f.known.body).inside ≡ true
      inside-named (GET r n o) = refl
      inside-named (PUT n o r) = refl

      pairs-named : (a : Access) → (named a f.known.body).pairs ≡ []
      pairs-named (GET r n o) = f.inside.pairs
      pairs-named (PUT n o r) = f.inside.pairs

-- THE FACTS OF A TRANSACTION FROM THOSE OF ITS PASS
pub transaction_fit : {words blocks : ℕ} {copies : List ℕ} {l : List BodyCommand} {x : Transaction} {s : Inner} → PassFit words blocks l x
    → InnerFit blocks copies l x s → TransactionFit words blocks copies l [] x s
transaction_fit {l = l} {x} f i =
    let s = named_fit f.inside l f.faultless in
    record {
      no_pairs = refl;
      kept = f.kept;
      begun = f.begun;
      known = f.known;
      inside = f.inside;
      faultless = f.faultless;
      touched = f.touched;
      most = omega (arith, touched-most x.blocks (named_so_far l f.known.body).touched f.touched.touched, s.touched);
      most_used = omega (arith, count_most copied? x.blocks (named_so_far l f.known.body).puts f.touched.put, s.puts, f.touched.slots);
      inner = i;
    }

pub pass_of : {words blocks : ℕ} {copies : List ℕ} {l : List BodyCommand} {ps : List Entry} {x : Transaction} {s : Inner}
    → TransactionFit words blocks copies l ps x s → PassFit words blocks l x
pass_of f = record { kept = f.kept; begun = f.begun; known = f.known; inside = f.inside; faultless = f.faultless; touched = f.touched }

-- a pass begins with nothing touched
pub pass_start : {words blocks : ℕ} {l : List BodyCommand} {kept : List ℕ} → BegunFit words blocks l → length kept ≡ 8
    → PassFit words blocks l (fresh_transaction kept l)
pass_start {blocks = blocks} {l} f h =
    record { kept = h; begun = f; known = f.known; inside = f.inside; faultless = f.faultless; touched = blocks-none blocks (named_so_far l f.known.body) }
