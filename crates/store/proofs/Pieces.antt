-- The bytes of a store as a value, by the pieces that the code writes: header, offsets by the sizes of subtables, region list, subtables. No reader of
-- a definition needs it. Assumes nothing.
use mathlib.Core.Path.{◌≡◌, refl, ap₂, ◌∙◌}
use mathlib.Core.List.{List, [], ◌∷◌, ◌++◌, append_assoc, map}
use mathlib.Core.Option.{Option, none, some}
use Prim.Native.Nat.{ℕ, ◌+◌, ◌*◌}
use native.Mathlib.Nat.{add-zero}
use native.Mathlib.Omega.{arith}
use lib.ListN.{length, get_or, length-append, length-map}
use borrow.Author.Tests.{ne_eqb}
use Rattle.laws.specs.Bytes.{bytes_of}
use Rattle.laws.specs.Joining.{join_all}
use Rattle.laws.proofs.BytesLaws.{bytes-length}
use Rattle.laws.proofs.ListLaws.{map-map}
use Rattle.stores.specs.Stores.{Table, Parsed, slot_bytes, offsets, place}
use Rattle.stores.specs.Stores as value
use Rattle.rows.specs.Row.{Set}
use Rattle.store.specs.Placing.{Final, all_runs, kept_of, new_index, slot_of, made_of, store_of}
use Rattle.store.specs.Lent.{header_bytes, list_bytes, spot_of, spots_of, subtable_of}

-- a subtable that is not null has bytes
table-some : (t : Table) → length (value.table_bytes t) ≡ 0 → ⊥
unfolding value.table_bytes
table-some t e =
    let rest =
    bytes_of 2 t.word ++ (bytes_of 2 (length t.columns) ++ (join_all (map (bytes_of 2) t.columns) ++ join_all t.rows)) in
    omega (arith, length-append (bytes_of 2 (length t.rows)) rest, bytes-length 2 (length t.rows))

-- so offsets depend on the sizes alone
offsets_are : (at : ℕ) (ts : List (Option Table)) → offsets at ts ≡ spots_of at (map (λ (t : List ℕ). length t) (map slot_bytes ts))
unfolding offsets spots_of spot_of slot_bytes
offsets_are at [] = refl
offsets_are at (none ∷ ts) = rw (add-zero, offsets_are at ts)
offsets_are at (some t ∷ ts) = rw (ne_eqb (length (value.table_bytes t)) 0 (table-some t), offsets_are (at + length (value.table_bytes t)) ts)

-- a region list and subtables by their bytes, put one after another
abbrev pub pieces : List ℕ → List (List ℕ) → List ℕ
pieces list ts =
    header_bytes (length ts)
    ++ (spots_of (8 + 4 * length ts + length list) (map (λ (t : List ℕ). length t) ts)
    ++ (list
    ++ join_all ts))

place-pieces : (p : Parsed) → place p ≡ pieces (value.list_bytes p) (map slot_bytes p.tables)
unfolding place
place-pieces p =
    let n = length p.tables in
    let begin = 8 + 4 * n + length (value.list_bytes p) in
    rw (length-map p.tables slot_bytes, offsets_are begin p.tables)
    (regroup (bytes_of 2 1) (bytes_of 4 (8 + 4 * n)) (bytes_of 2 n) (spots_of begin (map (λ (t : List ℕ). length t) (map slot_bytes p.tables)) ++ (value.list_bytes p ++ join_all (map slot_bytes p.tables))))
  where
    regroup : (a b c d : List ℕ) → a ++ (b ++ (c ++ d)) ≡ (a ++ (b ++ c)) ++ d
    regroup a b c d = simp append_assoc

-- the region list of groups
abbrev pub list_of : ℕ → List (List ℕ) → List Final → List ℕ
list_of axes coords gs = list_bytes axes (length (kept_of (length coords) gs)) (join_all (map (λ r. get_or coords r []) (kept_of (length coords) gs)))

module _ (axes : ℕ) (coords : List (List ℕ)) (set : ℕ → Set) (gs : List Final) where
  made_list : value.list_bytes (made_of axes coords set gs) ≡ list_of axes coords gs
  unfolding value.list_bytes made_of
  made_list = rw (length-map (kept_of (length coords) gs) (λ r. get_or coords r []))

  made-tables : map slot_bytes (made_of axes coords set gs).tables ≡ map (λ (r : Final). subtable_of (new_index gs) set r.shape r.ids) (all_runs gs)
  unfolding made_of subtable_of
  made-tables = map-map slot_bytes (λ (r : Final). slot_of (new_index gs) set r.shape r.ids) (all_runs gs)

  pub store-pieces : store_of axes coords set gs ≡ pieces (list_of axes coords gs) (map (λ (r : Final). subtable_of (new_index gs) set r.shape r.ids) (all_runs gs))
  unfolding store_of
  store-pieces = place-pieces (made_of axes coords set gs) ∙ ap₂ pieces made_list made-tables
