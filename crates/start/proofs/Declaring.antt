-- The memory of a sheet whose first words and blocks are declared: at first, and with one word or one block more.
use Prim.Native.Nat.{ℕ, suc, ◌+◌, ◌*◌, ◌-◌, ◌<◌, ◌≤◌}
use mathlib.Core.Path.{◌≡◌, refl, sym, ap, ◌∙◌}
use mathlib.Core.List.{List, [], ◌∷◌, ◌++◌, map, map-append, append_assoc, append-nil}
use native.Mathlib.Omega.{arith}
use lib.ListN.{length, get_or, take, replicate, length-append, length-map, length-replicate, replicate-append-replicate}
use lib.Seq.{take-length, length-take-le, set-append_left}
use Rattle.model.specs.Lists.{replace}
use Rattle.model.specs.Command.{Block, no_block}
use Rattle.model.specs.Sheet.{Sheet}
use Rattle.model.specs.Word.{Word, fresh_word, Memory, memory}
use Rattle.model.specs.Transaction.{bank_value}
use Rattle.model.specs.Start.{filled, banks_from, zeros, start_values, start_memory}
use Rattle.model.proofs.Lists.{map-replace, length-replace}
use Rattle.model.proofs.Fit.Start.{filled-size, banks_size}
use Rattle.model.proofs.Fit.Sheet.{SheetFit}
use Rattle.state.specs.Packed.{unpack}
use Rattle.state.specs.State.{Shared, set_cell}
use Rattle.state.specs.Sized.{SharedSized}
use Rattle.start.specs.Start.{SharedStarts}
use Rattle.start.specs.Declaring.{nothing, declaring, Stored}
use Rattle.start.proofs.Lists.{first_next, filled_next, replace-behind}

-- THE LISTS OF THE START
abbrev fresh : Word
fresh = fresh_word 0

abbrev word_cells : List ℕ → List Word
word_cells l = filled 32 fresh (map fresh_word l)

abbrev bank_cells : ℕ → List Block → List Word
bank_cells store l = filled 16 fresh (banks_from store l)

-- the copies take the first stores, that many
abbrev first_stores : ℕ → List Block → List (List ℕ)
first_stores taken l = filled 48 (zeros 8) (replicate taken (zeros 8) ++ map start_values l)

words-next : (l : List ℕ) (w : ℕ) → w < length l → length l ≤ 32
    → replace (word_cells (take w l)) w (fresh_word (get_or l w 0)) ≡ word_cells (take (w + 1) l)
words-next l w h most =
    let size : length (map fresh_word (take w l)) ≡ w = length-map (take w l) fresh_word ∙ length-take-le w l (omega arith) in
    filled_next 32 fresh (map fresh_word (take w l)) w (fresh_word (get_or l w 0)) size (omega arith)
    ∙ ap (filled 32 fresh) (sym (ap (map fresh_word) (first_next 0 l w h) ∙ map-append fresh_word (take w l) (get_or l w 0 ∷ [])))

banks_append : (store : ℕ) (l : List Block) (b : Block)
    → banks_from store (l ++ (b ∷ [])) ≡ banks_from store l ++ (fresh_word (bank_value b.version (store + length l)) ∷ [])
unfolding banks_from
banks_append store [] b = let z : store + 0 ≡ store = omega arith in rw z
banks_append store (x ∷ l) b = let z : store + suc (length l) ≡ suc store + length l = omega arith in rw (banks_append (suc store) l b, z)

banks_next : (store : ℕ) (l : List Block) (b : ℕ) → b < length l → length l ≤ 16
    → replace (bank_cells store (take b l)) b (fresh_word (bank_value (get_or l b no_block).version (store + b))) ≡ bank_cells store (take (b + 1) l)
banks_next store l b h most =
    let size : length (take b l) ≡ b = length-take-le b l (omega arith) in
    let next : Word = fresh_word (bank_value (get_or l b no_block).version (store + b)) in
    filled_next 16 fresh (banks_from store (take b l)) b next (banks_size store (take b l) ∙ size) (omega arith)
    ∙ ap (filled 16 fresh)
    (sym (ap (banks_from store) (first_next no_block l b h) ∙ banks_append store (take b l) (get_or l b no_block) ∙ rw size))

stores-next : (taken : ℕ) (l : List Block) (b : ℕ) → b < length l → taken + length l ≤ 48
    → replace (first_stores taken (take b l)) (taken + b) (get_or l b no_block).values ≡ first_stores taken (take (b + 1) l)
stores-next taken l b h most =
    let size : length (take b l) ≡ b = length-take-le b l (omega arith) in
    let before : List (List ℕ) = replicate taken (zeros 8) in
    let next : List (List ℕ) = map start_values (take b l) in
    filled_next 48 (zeros 8) (before ++ next) (taken + b) (get_or l b no_block).values
    (omega (arith, length-append before next, length-replicate taken (zeros 8), length-map (take b l) start_values)) (omega arith)
    ∙ ap (filled 48 (zeros 8))
    (append_assoc before next ((get_or l b no_block).values ∷ [])
    ∙ ap (λ (z : List (List ℕ)). before ++ z)
    (sym (ap (map start_values) (first_next no_block l b h) ∙ map-append start_values (take b l) (get_or l b no_block ∷ []))))

none-stored : (taken : ℕ) → taken ≤ 48 → first_stores taken [] ≡ first_stores 0 []
unfolding filled
none-stored taken h =
    let l : List (List ℕ) = replicate taken (zeros 8) in
    let rest : taken + (48 - taken) ≡ 48 = omega arith in
    rw (append-nil l, length-replicate taken (zeros 8), replicate-append-replicate taken (48 - taken) (zeros 8), rest)

same_memory : {a b : List Word} {p q : List ℕ} {x y u v : List (List ℕ)} → a ≡ b → p ≡ q → x ≡ y → u ≡ v → memory a p x u ≡ memory b q y v
same_memory e f g h = cc

pub cell-sized : {m : Shared} (i x : ℕ) → SharedSized m → SharedSized (set_cell m i x)
cell-sized {m} i x h = record { cells = length-replace m.cells i x ∙ h.cells; status = h.status; saves = h.saves; stores = h.stores }

words_size : (l : List ℕ) (w : ℕ) → w ≤ length l → length l ≤ 32 → length (word_cells (take w l)) ≡ 32
words_size l w h most =
    filled-size 32 fresh (map fresh_word (take w l)) (rw (length-map (take w l) fresh_word, length-take-le w l h) (omega arith))

module _ {s : Sheet} (c : SheetFit s) where
  -- nothing of the sheet yet
  pub none-set : {m : Shared} → SharedStarts nothing m → SharedStarts (declaring s 0 0) m
  unfolding start_memory banks_from
  none-set h =
      record {
        memory = h.memory ∙ same_memory refl refl refl (sym (none-stored (4 * length s.bodies) (omega (arith, c.bodies))));
        sized = h.sized;
      }

  -- one word more
  pub word_set : {m : Shared} (w x : ℕ) → SharedStarts (declaring s w 0) m → w < length s.words → unpack x ≡ fresh_word (get_or s.words w 0)
      → SharedStarts (declaring s (w + 1) 0) (set_cell m w x)
  unfolding start_memory replace
  word_set {m} w x h less e =
      let held = h.memory in
      let words : List Word = word_cells (take w s.words) in
      let banks : List Word = bank_cells (4 * length s.bodies) [] in
      let size = words_size s.words w (omega arith) c.words in
      record {
        memory = same_memory
            (map-replace unpack m.cells w x
            ∙ rw (ap (λ (z : Memory). z.cells) held, e)
            (set-append_left words banks w (fresh_word (get_or s.words w 0)) (omega (arith, size, c.words))
            ∙ ap (λ (l : List Word). l ++ banks) (words-next s.words w less c.words)))
            (ap (λ (z : Memory). z.status) held)
            (ap (λ (z : Memory). z.saves) held)
            (ap (λ (z : Memory). z.stores) held);
        sized = cell-sized w x h.sized;
      }

  -- one block more
  pub block_set : {m r : Shared} (w b x : ℕ) → SharedStarts (declaring s w b) m → w ≤ length s.words → b < length s.blocks
      → unpack x ≡ fresh_word (bank_value (get_or s.blocks b no_block).version (4 * length s.bodies + b))
      → Stored (set_cell m (32 + b) x) (4 * length s.bodies + b) (get_or s.blocks b no_block).values r
      → SharedStarts (declaring s w (b + 1)) r
  unfolding start_memory
  block_set {m} {r} w b x h few less e stored =
      let held = h.memory in
      let store : ℕ = 4 * length s.bodies in
      let words : List Word = word_cells (take w s.words) in
      let banks : List Word = bank_cells store (take b s.blocks) in
      let value : Word = fresh_word (bank_value (get_or s.blocks b no_block).version (store + b)) in
      let values : List ℕ = (get_or s.blocks b no_block).values in
      record {
        memory = stored.memory
            ∙ same_memory
            (map-replace unpack m.cells (32 + b) x
            ∙ rw (ap (λ (z : Memory). z.cells) held, e)
            (replace-behind words banks 32 b value (words_size s.words w few c.words)
            ∙ ap (λ (l : List Word). words ++ l) (banks_next store s.blocks b less c.blocks)))
            (ap (λ (z : Memory). z.status) held)
            (ap (λ (z : Memory). z.saves) held)
            (ap (λ (z : Memory). replace z.stores (store + b) values) held
            ∙ stores-next store s.blocks b less (omega (arith, c.bodies, c.blocks)));
        sized = stored.sized;
      }

  -- all of it
  pub all_set : {m : Shared} → SharedStarts (declaring s (length s.words) (length s.blocks)) m → SharedStarts s m
  all_set h = rw (take-length s.words, take-length s.blocks) at h
