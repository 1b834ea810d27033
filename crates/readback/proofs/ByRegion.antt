-- A row of the store that is built, read by the coordinates of a region, is its set. Assumes nothing.
use mathlib.Core.Path.{◌≡◌, sym, ◌∙◌}
use mathlib.Core.Bool.{Bool, false}
use mathlib.Core.List.{List, []}
use mathlib.Core.Logic.{⊎_elim}
use Prim.Native.Nat.{ℕ, ◌<◌}
use native.Mathlib.Omega.{arith}
use lib.IntN.{pos}
use lib.ListN.{length, get_or}
use Rattle.laws.proofs.Cases.{Which, which, true-false, same_or_not}
use Rattle.laws.proofs.Cases.Which.{holds, fails}
use Rattle.shapes.proofs.WidthLaws.{cost-none}
use Rattle.stores.specs.Stores.{Parsed}
use Rattle.stores.specs.Dropping.{picked}
use Rattle.stores.specs.Coordinates.{read_at, Distinct}
use Rattle.laws.proofs.RankLaws.{rank_less}
use Rattle.stores.proofs.Picking.{picked-at, picked-long}
use Rattle.stores.proofs.ByCoordinates.{at-found, at-lost, picked-from, picked-distinct}
use Rattle.rows.specs.Row.{Set, value_in}
use Rattle.store.specs.Placing.{Final, all_runs, names, new_index, made_of}
use Rattle.readback.proofs.MapBack.{empty}
use Rattle.readback.proofs.Parsing.{Fit, regions-are}
use Rattle.readback.proofs.StoreBack.{run_sound, zero-value, made-back}

module _ (axes : ℕ) (coords : List (List ℕ)) (set : ℕ → Set) (gs : List Final) (fit : Fit axes coords set gs) (distinct : Distinct coords)
    (o : ℕ) (h : o < length (all_runs gs)) (i : ℕ) (row : i < length (get_or (all_runs gs) o empty).ids) where
  abbrev made : Parsed
  made = made_of axes coords set gs

  abbrev p : ℕ → Bool
  p r = names r gs

  abbrev run : Final
  run = get_or (all_runs gs) o empty

  abbrev mine : Set
  mine = set (get_or (get_or (all_runs gs) o empty).ids i 0)

  same-regions : made.regions ≡ picked p [] coords
  same-regions = regions-are axes coords set gs

  made-distinct : Distinct made.regions
  made-distinct = rw same-regions (picked-distinct p coords distinct)

  lost-value : (r : ℕ) → names r gs ≡ false → value_in mine r ≡ pos 0
  lost-value r f =
      let s = run_sound axes coords set gs fit o h i row in
      ⊎_elim
      (λ (e : get_or run.shape r 0 ≡ 0). zero-value (value_in mine r) (cost-none (value_in mine r) (omega (arith, (s.covers i row).holds r))))
      (λ d. absurd (true-false (s.named r (omega arith)) f))
      (same_or_not (get_or run.shape r 0) 0)

  -- each region of the job, by its coordinates; one that is not listed counts as zero
  pub made_at : (r : ℕ) → r < length coords → read_at made o i (get_or coords r []) ≡ value_in mine r
  made_at r b = go (which (names r gs))
    where
      go : Which (names r gs) → read_at made o i (get_or coords r []) ≡ value_in mine r
      go (holds t) =
          at-found made made-distinct o i (get_or coords r []) (new_index gs r)
          (rw (same-regions, picked-long p [] coords) (rank_less p r (length coords) t b))
          (rw same-regions (picked-at p [] coords r b t))
          ∙ made-back axes coords set gs fit o h i row r b t
      go (fails f) =
          at-lost made o i (get_or coords r [])
          (λ j l e.
          let a = picked-from p coords j (rw same-regions at l) in
          let g : get_or (picked p [] coords) j [] ≡ get_or coords r [] = rw same-regions at e in
          true-false (rw (distinct.apart a.0 r a.1 b (sym a.3 ∙ g)) at a.2) f)
          ∙ sym (lost-value r f)

  pub made-else : (c : List ℕ) → ((r : ℕ) → r < length coords → get_or coords r [] ≡ c → ⊥) → read_at made o i c ≡ pos 0
  made-else c none-like = at-lost made o i c
      (λ j l e.
      let a = picked-from p coords j (rw same-regions at l) in
      let g : get_or (picked p [] coords) j [] ≡ c = rw same-regions at e in
      none-like a.0 a.1 (sym a.3 ∙ g))
