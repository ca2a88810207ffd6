-- What ClaimCases.antt states is so of the claim itself: the test `stands` decides whether it holds in an order, and the runs have these histories.
use Prim.Native.Nat.{ℕ}
use mathlib.Core.Bool.{Bool, true, false, not, ◌&&◌, true≢false, false≢true}
use mathlib.Core.Path.{◌≡◌, refl, sym, ◌∙◌, subst}
use mathlib.Core.Logic.{inl, inr}
use mathlib.Core.List.{List, [], ◌∷◌, ◌++◌}
use native.Mathlib.Omega.{arith}
use lib.Dec.{eqb}
use borrow.Author.Tests.{eqb-true, eq-eqb, not-true}
use Rattle.model.specs.Lists.{at, In}
use Rattle.model.specs.Fault.{among}
use Rattle.model.specs.Sheet.{sheet_of}
use Rattle.model.specs.Word.{current}
use Rattle.model.specs.Machine.{run}
use Rattle.model.specs.Start.{start_machine}
use Rattle.model.specs.Plain.{Contents}
use Rattle.model.specs.History.{History, operation_at, history_of}
use Rattle.model.specs.Claim.{each, Sequence, no_more, then, Once, RespectsTime, WholeOperations}
use Rattle.model.proofs.Fit.Elements.{and_left, and_right, or_cases, or_left, or_right}
use Rattle.model.proofs.WholeCases.{counted_from, timely, fed}
use Rattle.model.proofs.Sheets.{body₁, body_two_words, against}
use Rattle.model.proofs.Bytes.{word, task, release, end, read}
use Rattle.model.proofs.History.Ordered.{Ordered, whole_operations}
use Rattle.model.proofs.History.Counted.{in_counted, counted-counts}
use Rattle.model.proofs.ClaimCases.{all_among, once, replayed, stands, Stated, agrees, all_agree, reads, P4, cut, P5, table, all-agree}
use Rattle.model.proofs.History.Tests.{both, contents_equal, contents-same, timely_told, timely-found}
use Rattle.model.proofs.History.Search.{fed_told, fed_found}

-- THE SAME OPERATIONS
among_told : (a : ℕ) (l : List ℕ) → among a l ≡ true → In a l
unfolding among
among_told a [] e = absurd (false≢true e)
among_told a (b ∷ l) e = or_cases (eqb a b) (among a l) e (λ t. inl (eqb-true a b t)) (λ t. inr (among_told a l t))

among-found : (a : ℕ) (l : List ℕ) → In a l → among a l ≡ true
unfolding among
among-found a [] x' = elim x' [ ]
among-found a (b ∷ l) (inl e) = or_left (eqb a b) _ (eq-eqb a b e)
among-found a (b ∷ l) (inr i) = or_right (eqb a b) _ (among-found a l i)

all_told : (l m : List ℕ) → all_among l m ≡ true → (a : ℕ) → In a l → In a m
unfolding all_among
all_told [] m e a x'' = elim x'' [ ]
all_told (b ∷ l) m e a (inl i) = rw i (among_told b m (and_left (among b m) (all_among l m) e))
all_told (b ∷ l) m e a (inr i) = all_told l m (and_right (among b m) _ e) a i

all_found : (l m : List ℕ) → ((a : ℕ) → In a l → In a m) → all_among l m ≡ true
unfolding all_among
all_found [] m f = refl
all_found (b ∷ l) m f = both (among b m) _ (among-found b m (f b (inl refl))) (all_found l m (λ a i. f a (inr i)))

once_told : (l : List ℕ) → once l ≡ true → Once l
unfolding once
once_told [] e = tt
once_told (a ∷ l) e =
    let n = not-true (among a l) (and_left (not (among a l)) (once l) e) in
    (λ i. true≢false (sym (among-found a l i) ∙ n), once_told l (and_right (not (among a l)) _ e))

once-found : (l : List ℕ) → Once l → once l ≡ true
unfolding once
once-found [] o = refl
once-found (a ∷ l) (n, o) = both (not (among a l)) _ (go (among a l) refl) (once-found l o)
  where
    go : (b : Bool) → among a l ≡ b → not (among a l) ≡ true
    go true e = absurd (n (among_told a l e))
    go false e = rw e refl

-- THE REPLAY
module _ (h : History) (d : Contents) where
  record InTime (l : List ℕ) (c : Contents) : Type 0 where
    pub timely : RespectsTime h l
    pub replay : Sequence h l c d

  replayed_told : (l : List ℕ) (c : Contents) → replayed h d l c ≡ true → InTime l c
  unfolding replayed
  replayed_told [] c e = record { timely = tt; replay = rw (contents_equal c d e) no_more }
  replayed_told (a ∷ l) c e =
      let f = fed_told (replayed h d l) h a c (operation_at h a) refl (and_right (timely h a l) _ e) in
      let r = replayed_told l f.leaves f.follow in
      record {
        timely = (timely_told h a l (and_left (timely h a l) (fed (replayed h d l) h a (operation_at h a) c) e), r.timely);
        replay = then f.replays r.replay;
      }

  replayed_found : (l : List ℕ) (c : Contents) → RespectsTime h l → Sequence h l c d → replayed h d l c ≡ true
  unfolding replayed
  replayed_found [] c t no_more = contents-same c
  replayed_found (a ∷ l) c (ta, t) (then {c' = c'} p q) =
      both (timely h a l) _ (timely-found h a l ta) (fed_found (replayed h d l) h a c c' p (replayed_found l c' t q))

-- THE TEST DECIDES THE CLAIM IN THAT ORDER
pub record InOrder (h : History) (c d : Contents) (l : List ℕ) : Type 0 where
  pub claim : Ordered h c d
  pub is : claim.order ≡ l

module _ (h : History) (c d : Contents) where
  abbrev all : List ℕ → Bool
  all l = all_among (counted_from 0 h.began) l

  abbrev only : List ℕ → Bool
  only l = all_among l (counted_from 0 h.began)

  pub stands_told : (l : List ℕ) → stands h c d l ≡ true → InOrder h c d l
  unfolding stands
  stands_told l e =
      let x = and_left (once l && all l && only l) (replayed h d l c) e in
      let y = and_left (once l && all l) (only l) x in
      let into = all_told (counted_from 0 h.began) l (and_right (once l) _ y) in
      let from = all_told l (counted_from 0 h.began) (and_right (once l && all l) _ x) in
      let r = replayed_told h d l c (and_right (once l && all l && only l) _ e) in
      record {
        claim = record {
          order = l;
          once = once_told l (and_left (once l) (all l) y);
          all = λ a k. into a (in_counted 0 h.began a a (omega arith) k);
          only = λ a i. counted-counts 0 h.began a a (omega arith) (from a i);
          timely = r.timely;
          replay = r.replay;
        };
        is = refl;
      }

  pub stands_found : (w : Ordered h c d) → stands h c d w.order ≡ true
  unfolding stands
  stands_found w =
      let l = w.order in
      let into = all_found (counted_from 0 h.began) l (λ a i. w.all a (counted-counts 0 h.began a a (omega arith) i)) in
      let from = all_found l (counted_from 0 h.began) (λ a i. in_counted 0 h.began a a (omega arith) (w.only a i)) in
      both (once l && all l && only l) _
      (both (once l && all l) _ (both (once l) _ (once-found l w.once) into) from)
      (replayed_found h d l c w.timely w.replay)

-- WHAT THE TABLE SAYS: the claim holds in that order, or it does not
abbrev pub SaysBy : Bool → Stated → Type 0
SaysBy true s = InOrder s.history s.first s.last s.order
SaysBy false s = InOrder s.history s.first s.last s.order → ⊥

abbrev pub AllSay : List Stated → Type 0
AllSay [] = Unit {0}
AllSay (s ∷ l) = SaysBy s.holds s × AllSay l

said : (b : Bool) (s : Stated) → agrees b (stands s.history s.first s.last s.order) ≡ true → SaysBy b s
unfolding agrees
said true s e = stands_told s.history s.first s.last s.order e
said false s e = λ w.
    true≢false
    (sym (subst (λ (l : List ℕ). stands s.history s.first s.last l ≡ true) w.is (stands_found s.history s.first s.last w.claim))
    ∙ not-true (stands s.history s.first s.last s.order) e)

all_said : (l : List Stated) → all_agree l ≡ true → AllSay l
unfolding all_agree
all_said [] e = tt
all_said (s ∷ l) e =
    let b = agrees s.holds (stands s.history s.first s.last s.order) in
    (said s.holds s (and_left b (all_agree l) e), all_said l (and_right b _ e))

pub table-says : AllSay table
table-says = all_said table all-agree

-- THE RUNS: each has its stated history, and the claim holds in the stated order
claimed : (s : Stated) → stands s.history s.first s.last s.order ≡ true → Ordered s.history s.first s.last
claimed s e = (stands_told s.history s.first s.last s.order e).claim

pub sheet_reads : List ℕ
sheet_reads = word 12 ++ task ++ read 0 0 ++ read 1 0 ++ release 0 0 ++ end

pub reads_whole : WholeOperations sheet_reads 65535
unfolding history_of run start_machine sheet_of sheet_reads at current each stands
reads_whole = whole_operations sheet_reads 65535 refl refl refl (claimed (reads (0 ∷ 2 ∷ []) true) refl)

pub sheet_p4 : List ℕ
sheet_p4 = against (word 12) body₁ 11

pub P4-whole : WholeOperations sheet_p4 65535
unfolding history_of run start_machine sheet_of sheet_p4 at current each stands
P4-whole = whole_operations sheet_p4 65535 refl refl refl (claimed (P4 (3 ∷ 14 ∷ []) true) refl)

pub cut-whole : WholeOperations sheet_p4 11
unfolding history_of run start_machine sheet_of sheet_p4 at current each stands
cut-whole = whole_operations sheet_p4 11 refl refl refl (claimed (cut (3 ∷ []) true) refl)

pub sheet_p5 : List ℕ
sheet_p5 = against (word 12 ++ word 22) body_two_words 9

pub P5-whole : WholeOperations sheet_p5 65535
unfolding history_of run start_machine sheet_of sheet_p5 at current each stands
P5-whole = whole_operations sheet_p5 65535 refl refl refl (claimed (P5 7 (3 ∷ 13 ∷ []) true) refl)
