-- One entry more in a task's record, with nothing loaded yet.
use Prim.Native.Nat.{ℕ, suc, ◌<◌}
use mathlib.Core.Path.{◌≡◌, refl, sym, ap, ◌∙◌}
use mathlib.Core.Logic.{◌≢◌}
use mathlib.Core.Bool.{true}
use mathlib.Core.List.{List, [], ◌∷◌, ◌++◌}
use native.Mathlib.Omega.{arith}
use Rattle.model.specs.Lists.{at}
use Rattle.model.specs.Exchange.{Entry, entry}
use Rattle.model.specs.Word as W
use Rattle.model.proofs.Lists.{replace-same, replace-other, length-replace}
use Rattle.state.specs.Packed.{unpack, packed}
use Rattle.state.specs.State.{Entries}
use Rattle.state.proofs.Packed.{unpack-packed}
use Rattle.jobs.specs.Jobs.{entered_in}
use Rattle.refinement.proofs.Tabulate.{tabulate, tabulate_more}
use Rattle.refinement.proofs.View.{entry_of, entries_of, pairs_of}
use Rattle.refinement.proofs.Shape.{Unloaded}
use Rattle.refinement.proofs.Sized.{EntriesSized}

-- none
pub no_pairs : (e : Entries) → pairs_of 0 e ≡ []
unfolding pairs_of tabulate
no_pairs e = refl

pub no_entries : (e : Entries) → entries_of 0 e ≡ []
unfolding entries_of tabulate
no_entries e = refl

pub none_unloaded : (e : Entries) → Unloaded 0 e
none_unloaded e = no_entries e ∙ sym (no_pairs e)

-- after the k there are
module _ (e : Entries) (k cell old new : ℕ) (s : EntriesSized e) where
  pub entered-sized : EntriesSized (entered_in e k cell old new)
  unfolding entered_in
  entered-sized =
      record {
        targets = length-replace e.targets k cell ∙ s.targets;
        olds = length-replace e.olds k old ∙ s.olds;
        news = length-replace e.news k new ∙ s.news;
        inits = length-replace e.inits k _ ∙ s.inits;
        overlapped = length-replace e.overlapped k 0 ∙ s.overlapped;
      }

  module _ (room : k < 8) where
    pub entered-pairs : pairs_of (suc k) (entered_in e k cell old new) ≡ pairs_of k e ++ (entry cell old new ∷ [])
    unfolding pairs_of entered_in
    entered-pairs =
        tabulate_more k _ (λ n. entry (at 0 e.targets n) (at 0 e.olds n) (at 0 e.news n)) (entry cell old new)
        (λ n h. let d : n ≢ k = omega arith in
        rw (replace-other 0 e.targets k n cell d, replace-other 0 e.olds k n old d, replace-other 0 e.news k n new d))
        (rw (
          replace-same 0 e.targets k cell (omega (arith, s.targets)),
          replace-same 0 e.olds k old (omega (arith, s.olds)),
          replace-same 0 e.news k new (omega (arith, s.news)),
        ))

    pub entered-entries : entries_of (suc k) (entered_in e k cell old new) ≡ entries_of k e ++ (entry cell old new ∷ [])
    unfolding entries_of entered_in
    entered-entries =
        let fresh : unpack (packed 0 0 true 0) ≡ W.fresh_word 0 = unpack-packed 0 0 true 0 (omega arith) (omega arith) in
        tabulate_more k _ (entry_of e) (entry cell old new)
        (λ n h. let d : n ≢ k = omega arith in
        rw (
          replace-other 0 e.targets k n cell d,
          replace-other 0 e.olds k n old d,
          replace-other 0 e.news k n new d,
          replace-other 0 e.inits k n (packed 0 0 true 0) d,
          replace-other 0 e.overlapped k n 0 d,
        ))
        (rw (
          replace-same 0 e.targets k cell (omega (arith, s.targets)),
          replace-same 0 e.olds k old (omega (arith, s.olds)),
          replace-same 0 e.news k new (omega (arith, s.news)),
          replace-same 0 e.inits k (packed 0 0 true 0) (omega (arith, s.inits)),
          replace-same 0 e.overlapped k 0 (omega (arith, s.overlapped)),
          fresh,
        ))

    pub entered_unloaded : Unloaded k e → Unloaded (suc k) (entered_in e k cell old new)
    entered_unloaded u = entered-entries ∙ ap (λ (l : List Entry). l ++ (entry cell old new ∷ [])) u ∙ sym entered-pairs
