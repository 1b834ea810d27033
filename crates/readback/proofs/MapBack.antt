-- The map is one to one between ids and rows. Assumes nothing.
use mathlib.Core.Path.{◌≡◌, refl, sym, ap, ◌∙◌}
use mathlib.Core.List.{List, [], ◌∷◌}
use Prim.Native.Nat.{ℕ, zero, suc, ◌+◌, ◌*◌, ◌<◌}
use native.Mathlib.Nat.{add-zero}
use native.Mathlib.Omega.{arith}
use lib.ListN.{length, get_or, set, length-set, length-append, get_or-append}
use lib.Seq.{get_or-set_same, get_or-set_other, get_or-append-add}
use Rattle.laws.specs.Every.{All, EachTwo}
use Rattle.store.specs.Placing.{Final, in_run, id_words, stored}

-- an id that is not named keeps its word
stored_other : (l : List (ℕ × ℕ)) (m : List ℕ) (x : ℕ) → All (λ (e : ℕ × ℕ). e.0 ≡ x → ⊥) l → get_or (stored l m) x 0 ≡ get_or m x 0
unfolding stored
stored_other [] m x h = refl
stored_other (e ∷ l) m x h = stored_other l (set m e.0 e.1) x h.1 ∙ get_or-set_other m e.0 x e.1 0 (λ q. h.0 (sym q))

-- where no id is named twice, each has the word that it is named with
pub stored_at : (l : List (ℕ × ℕ)) (m : List ℕ) (k : ℕ) → EachTwo (λ (a b : ℕ × ℕ). b.0 ≡ a.0 → ⊥) l → k < length l → (get_or l k (0, 0)).0 < length m
    → get_or (stored l m) (get_or l k (0, 0)).0 0 ≡ (get_or l k (0, 0)).1
unfolding stored
stored_at [] m k t h b = absurd (omega arith)
stored_at (e ∷ l) m zero t h b = stored_other l (set m e.0 e.1) e.0 t.0 ∙ get_or-set_same m e.0 e.1 0 b
stored_at (e ∷ l) m (suc k) t h b = stored_at l (set m e.0 e.1) k t.1 (omega arith) (omega (arith, length-set m e.0 e.1))

in-run : (outer a : ℕ) (xs : List ℕ) (i : ℕ) → i < length xs → (i < length (in_run outer a xs)) × (get_or (in_run outer a xs) i (0, 0) ≡ (get_or xs i 0, outer * 65536 + (a + i)))
unfolding in_run
in-run outer a [] i h = absurd (omega arith)
in-run outer a (x ∷ xs) zero h = (omega arith, rw add-zero)
in-run outer a (x ∷ xs) (suc i) h =
    let ih = in-run outer (suc a) xs i (omega arith) in
    let e : suc a + i ≡ a + suc i = omega arith in
    (omega (arith, ih.0), rw e at ih.1)

-- a run of no rows
abbrev pub empty : Final
empty = record { shape = []; ids = [] }

-- row inner of run outer is named, with its word
pub row_named : (first : ℕ) (rs : List Final) (outer inner : ℕ) → outer < length rs → inner < length (get_or rs outer empty).ids
    → (k : ℕ) × (k < length (id_words first rs)) × (get_or (id_words first rs) k (0, 0) ≡ (get_or (get_or rs outer empty).ids inner 0, (first + outer) * 65536 + inner))
unfolding id_words
row_named first [] outer inner h b = absurd (omega arith)
row_named first (r ∷ rs) zero inner h b =
    let c = in-run first 0 r.ids inner b in
    let z : first * 65536 + (0 + inner) ≡ (first + 0) * 65536 + inner = omega arith in
    (inner, omega (arith, c.0, length-append (in_run first 0 r.ids) (id_words (suc first) rs)), get_or-append (in_run first 0 r.ids) (id_words (suc first) rs) (0, 0) inner c.0 ∙ c.1 ∙ ap (λ (v : ℕ). (get_or r.ids inner 0, v)) z)
row_named first (r ∷ rs) (suc outer) inner h b =
    let ih = row_named (suc first) rs outer inner (omega arith) b in
    let n = length (in_run first 0 r.ids) in
    let e : suc first + outer ≡ first + suc outer = omega arith in
    (n + ih.0, omega (arith, ih.1, length-append (in_run first 0 r.ids) (id_words (suc first) rs)), get_or-append-add (in_run first 0 r.ids) (id_words (suc first) rs) ih.0 (0, 0) ∙ (rw e at ih.2))

-- so the map has, at the id of each row, that row's word
pub map_at : (rs : List Final) (m : List ℕ) (outer inner : ℕ) → EachTwo (λ (a b : ℕ × ℕ). b.0 ≡ a.0 → ⊥) (id_words 0 rs) → outer < length rs → inner < length (get_or rs outer empty).ids
    → get_or (get_or rs outer empty).ids inner 0 < length m → get_or (stored (id_words 0 rs) m) (get_or (get_or rs outer empty).ids inner 0) 0 ≡ outer * 65536 + inner
map_at rs m outer inner t h b l =
    let k = row_named 0 rs outer inner h b in
    let x : (get_or (id_words 0 rs) k.0 (0, 0)).0 ≡ get_or (get_or rs outer empty).ids inner 0 = ap (λ (e : ℕ × ℕ). e.0) k.2 in
    let v : (get_or (id_words 0 rs) k.0 (0, 0)).1 ≡ (0 + outer) * 65536 + inner = ap (λ (e : ℕ × ℕ). e.1) k.2 in
    let z : (0 + outer) * 65536 + inner ≡ outer * 65536 + inner = omega arith in
    (rw x at (stored_at (id_words 0 rs) m k.0 t k.1 (omega arith))) ∙ v ∙ z

-- and two rows with one word are one row
pub words-apart : (o i p j : ℕ) → i < 65536 → j < 65536 → o * 65536 + i ≡ p * 65536 + j → (o ≡ p) × (i ≡ j)
words-apart o i p j a b e = (omega arith, omega arith)
