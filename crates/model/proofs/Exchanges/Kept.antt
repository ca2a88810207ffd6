-- Contents and knowledge are kept: by a task in no exchange (readings, Start, whatever touches no cell), and by every outcome of an exchange's tick.
use Prim.Native.Nat.{ℕ, ◌<◌}
use mathlib.Core.Bool.{Bool, true, false}
use mathlib.Core.Path.{◌≡◌, refl, sym, ◌∙◌, ap, subst}
use mathlib.Core.List.{List}
use native.Mathlib.Omega.{arith}
use Rattle.model.specs.Lists.{replace}
use Rattle.model.specs.Word.{Word, Memory, cell_of, set_status, own, Reading, loading, looking, fetching, Read, reads, gives, read_tick, looking_by}
use Rattle.model.specs.Exchange.{Entry, start, test, Exchange, Exchanged}
use Rattle.model.proofs.Lists.{replace-same, impossible}
use Rattle.model.proofs.Exchanges.Act.{Act, free, reading, exchanging, act_at, act_after, memory_after, Quiet, Distinct}
use Rattle.model.proofs.Exchanges.Invariant.{ValidOrHeld, valid, held, Anyone, Knows, Rank, itself, idle, lower, Situation, Room}
use Rattle.model.proofs.Exchanges.Outcome.{Outcome, starts, tests_done, tests_on, loads, looks_own, looks_other}
use Rattle.model.proofs.Exchanges.Outcome.{fetches, saves_differing, saves-to_mark, saves, fails, marks, installs}
use Rattle.model.proofs.Exchanges.Outcome.{misses, decides, decides_last, cleans, cleans_last, cleans_to_mark}
use Rattle.model.proofs.Exchanges.Frame.{Frame, frame-none, frame-status, move_content, Moved, below_clear}
use Rattle.model.proofs.Exchanges.Early.{at-step_as}
use Rattle.model.proofs.Exchanges.Statement.{test_done-moved, test_on-moved, load_moved, look-own-moved}
use Rattle.model.proofs.Exchanges.Statement.{look-other-moved, fetch_moved, fail_moved, mark_moved, save_differing_moved}
use Rattle.model.proofs.Exchanges.Statement.{save-to_mark_moved, save-on-moved, miss-moved, install_moved}
use Rattle.model.proofs.Exchanges.Clean.{decides_moved, decides_last-moved, cleaned-at, cleans_moved, cleans_last-moved, cleans_to_mark_moved}

quiet_not : {x : Exchange} (v : Act) → Quiet v → v ≡ exchanging x → ⊥
quiet_not free q e = impossible (cc)
quiet_not (reading c r) q e = impossible (cc)
quiet_not (exchanging x) q e = q

module _ {below : ℕ → ℕ → Type 0} {m : Memory} {acts : List Act} {p : ℕ} {v₀ : Act} (S : Situation below m acts p v₀) (q : Quiet v₀) where
  -- no content is p's: all are of tasks below p
  pub others_content : {c : ℕ} {w : Word} → ValidOrHeld Anyone acts c w → ValidOrHeld (λ r. below r p) acts c w
  others_content (valid h) = valid h
  others_content {c} {w} (held o H) = go (S.rank w.task)
    where
      go : Rank below acts p w.task → ValidOrHeld (λ r. below r p) acts c w
      go (lower b) = held b H
      go (idle i) = impossible (cc H.at-work)
      go (itself e) = absurd (quiet_not v₀ q (sym S.act ∙ ap (λ (r : ℕ). act_at acts r) (sym e) ∙ H.at-work))

  pub quiet_moved : {n : Memory} (v : Act) → n.cells ≡ m.cells → Frame p m n → Knows (λ r. below r p) n.status n.saves (replace acts p v) p v
      → Moved below m n acts p v
  quiet_moved v ec F k =
      record { frame = F; contents = λ c. rw ec (weaken (move_content p v (below_clear S) (others_content (S.invariant.contents c)))); knows = k }
    where
      weaken : {a : List Act} {c : ℕ} {w : Word} → ValidOrHeld (λ r. below r p) a c w → ValidOrHeld Anyone a c w
      weaken (valid h) = valid h
      weaken (held b H) = held tt H

  -- Start
  pub start-moved : (es : List Entry) → Distinct es
      → Moved below m (set_status m p 0) acts p (exchanging (record { entries = es; i = 0; step = test }))
  start-moved es d =
      quiet_moved (exchanging (record { entries = es; i = 0; step = test })) refl (frame-status p m 0)
      (record {
        within = omega arith;
        at_entry = λ w. impossible (cc);
        distinct = d;
        settled = λ e l (h : e < 0). absurd (omega arith);
        not_yet = λ u. rw (replace-same 0 m.status p 0 (rw S.sizes S.task)) (omega arith);
        at-step = tt;
      })

  -- the Load of a reading
  pub read-loaded : (c : ℕ) → Moved below m m acts p (reading c (looking (cell_of m c)))
  read-loaded c =
      quiet_moved (reading c (looking (cell_of m c))) refl (frame-none p m)
      (move_content p _ (below_clear S) (others_content (S.invariant.contents c)))

-- what a tick of a reading of cell c leaves of its task's act
abbrev pub act_read : ℕ → Read → Act
act_read c (reads r) = reading c r
act_read c (gives v) = free

module _ {below : ℕ → ℕ → Type 0} {m : Memory} {acts : List Act} {p c : ℕ} where
  looked_moved : {w : Word} → Situation below m acts p (reading c (looking w)) → (b : Bool) → own m.status w ≡ b
      → Moved below m m acts p (act_read c (looking_by b w))
  unfolding looking_by
  looked_moved S true e = quiet_moved S tt free refl (frame-none p m) tt
  looked_moved {w} S false e =
      let k : ValidOrHeld (λ r. below r p) acts c w =
      subst (λ (v : Act). Knows (λ r. below r p) m.status m.saves acts p v) S.act (S.invariant.knows p) in
      quiet_moved S tt (reading c (fetching w)) refl (frame-none p m) (move_content p (reading c (fetching w)) (below_clear S) k, e)

  pub reading-moved : (r : Reading) → Situation below m acts p (reading c r) → Moved below m m acts p (act_read c (read_tick m c r))
  unfolding read_tick
  reading-moved loading S = read-loaded S tt c
  reading-moved (looking w) S = looked_moved S (own m.status w) refl
  reading-moved (fetching w) S = quiet_moved S tt free refl (frame-none p m) tt

module _ {below : ℕ → ℕ → Type 0} {m : Memory} {acts : List Act} {p : ℕ} {x : Exchange} (S : Situation below m acts p (exchanging x))
    (R : Room m p x.entries) where
  pub exchange-moved : {o : Exchanged} → Outcome p m x o → Moved below m (memory_after o) acts p (act_after o)
  exchange-moved (starts s) = absurd (at-step_as S start s)
  exchange-moved (tests_done s h) = test_done-moved S s h
  exchange-moved (tests_on s h) = test_on-moved S s h.0
  exchange-moved (loads s) = load_moved S s
  exchange-moved (looks_own s w) = look-own-moved S s w
  exchange-moved (looks_other s w) = look-other-moved S s w
  exchange-moved (fetches s) = fetch_moved S s
  exchange-moved (saves_differing v s ne) = save_differing_moved S R v s
  exchange-moved (saves-to_mark v s d o c) = save-to_mark_moved S R v s d o c
  exchange-moved (saves v s d u) = save-on-moved S R v s d u
  exchange-moved (fails s) = fail_moved S s
  exchange-moved (marks s) = mark_moved S s
  exchange-moved (installs s h) = install_moved S R s
  exchange-moved (misses s h) = miss-moved S s
  exchange-moved (decides s d ne) = decides_moved S s d ne
  exchange-moved (decides_last s d z) = decides_last-moved S s d z
  exchange-moved (cleans j yes? c ne) = cleans_moved S j yes? (cleaned-at S j yes? R c) ne
  exchange-moved (cleans_last j yes? c k) = cleans_last-moved S j yes? (cleaned-at S j yes? R c) k
  exchange-moved (cleans_to_mark j yes? s e h o) = cleans_to_mark_moved S j yes? s h o
