-- Sets dealt out in dense order, of equal sets the first alone: their ids are the ids of the distinct sets in dense order. Assumes nothing.
use mathlib.Core.Path.{◌≡◌, refl, sym, ap, ap₂, ◌∙◌}
use mathlib.Core.Bool.{Bool, true, false, ◌&&◌}
use mathlib.Core.List.{List, [], ◌∷◌, ◌++◌, map, append-nil}
use mathlib.Core.Logic.{◌⊎◌, ⊎_elim}
use Prim.Native.Nat.{ℕ, zero, suc, ◌+◌, ◌≤◌, ◌<◌}
use native.Mathlib.Omega.{arith}
use lib.ListN.{length, get_or, take, length-map}
use lib.Dec.{eqb}
use borrow.Author.Tests.{eq-eqb, ne_eqb}
use Rattle.laws.specs.Order.{is_most}
use Rattle.laws.specs.Every.{All}
use Rattle.laws.specs.Bounded.{tabulate, up_to}
use Rattle.laws.specs.Sorting.{sorted, keep}
use Rattle.laws.proofs.Cases.{same_or_not}
use Rattle.laws.proofs.ListLaws.{map-append}
use Rattle.laws.proofs.EveryLaws.{all-imp, all_map, all-get_or}
use Rattle.laws.proofs.SortLaws.{sorted_all, keep_append, keep-yes, keep-not, keep_same}
use Rattle.laws.proofs.SortMap.{sorted-map, sorted-same, keep-map, keep-keep, keep_all, keep-sorted}
use Rattle.laws.proofs.UpLaws.{up-all, up-snoc}
use Rattle.sets.specs.Set.{Set, Ascending}
use Rattle.sets.specs.Order.{order}
use Rattle.sets.specs.Ids.{place, distinct_from, distinct, shared_ids}
use Rattle.sets.proofs.SetLaws.{order_trans, order-total}
use Rattle.sets.proofs.IdLaws.{place_here, place-first, ids-place, distinct-has, id_below, id-at, first-id, first_count, again-count, distinct-all-of}
use Rattle.encoder.specs.Packed.{no_later, dense}

-- ---- ids

-- the ids in the order of rows are ids
pub dense-below : (all : List Set) → All (λ x. x < length all) (dense all)
unfolding dense
dense-below all = sorted_all (no_later all) (λ x. x < length all) (up_to (length all)) (up-all (length all))

-- the set of an id is the set that has it
pub set-of-id : (all : List Set) (x : ℕ) → x < length all → get_or (distinct all) (get_or (shared_ids all) x 0) [] ≡ get_or all x []
set-of-id all x h =
    ap (λ (i : ℕ). get_or (distinct all) i []) (id-at all x h) ∙ place_here (get_or all x []) (distinct all) (id_below all x h)

-- an id for each set, below the number of distinct ones
pub ids-length : (all : List Set) → length (shared_ids all) ≡ length all
ids-length all = ap length (ids-place [] all) ∙ length-map all (λ s. place s (distinct all))

pub ids-below : (all : List Set) → All (λ x. x < length (distinct all)) (shared_ids all)
ids-below all = rw (ids-place [] all) (all_map (λ x. x < length (distinct all)) (λ s. place s (distinct all)) all (distinct-has [] all))

module _ (all : List Set) where
  -- no earlier set equals the set of number x
  abbrev first : ℕ → Bool
  first x = eqb (place (get_or all x []) all) x

  abbrev id_of : ℕ → ℕ
  id_of x = get_or (shared_ids all) x 0

  -- ---- the ids of the firsts are 0, 1, 2, ..

  -- a set that no earlier one equals has the next id
  more-first : (k : ℕ) → k < length all → place (get_or all k []) all ≡ k
      → map id_of (keep first (k ∷ [])) ≡ length (distinct (take k all)) ∷ []
  more-first k h e =
      ap (map id_of) (keep-yes first k (eq-eqb (place (get_or all k []) all) k e))
      ∙ ap (λ (i : ℕ). i ∷ []) (id-at all k h ∙ first-id all k h e)

  firsts-snoc : (k : ℕ) → map id_of (keep first (up_to (k + 1))) ≡ map id_of (keep first (up_to k)) ++ map id_of (keep first (k ∷ []))
  firsts-snoc k =
      ap (λ (l : List ℕ). map id_of (keep first l)) (up-snoc k)
      ∙ ap (map id_of) (keep_append first (up_to k) (k ∷ []))
      ∙ map-append id_of (keep first (up_to k)) (keep first (k ∷ []))

  firsts-to : (k : ℕ) → k ≤ length all → map id_of (keep first (up_to k)) ≡ up_to (length (distinct (take k all)))
  firsts-to zero h = unfold tabulate keep distinct_from in refl
  firsts-to (suc k) h = go (firsts-to k (omega arith)) (same_or_not (place (get_or all k []) all) k)
    where
      new : map id_of (keep first (up_to k)) ≡ up_to (length (distinct (take k all))) → place (get_or all k []) all ≡ k
          → map id_of (keep first (up_to (k + 1))) ≡ up_to (length (distinct (take (k + 1) all)))
      new rec e =
          firsts-snoc k ∙ ap₂ ◌++◌ rec (more-first k (omega arith) e)
          ∙ sym (ap up_to (first_count all k (omega arith) e) ∙ up-snoc (length (distinct (take k all))))

      again : map id_of (keep first (up_to k)) ≡ up_to (length (distinct (take k all))) → (place (get_or all k []) all ≡ k → ⊥)
          → map id_of (keep first (up_to (k + 1))) ≡ up_to (length (distinct (take (k + 1) all)))
      again rec d =
          let low = place-first (get_or all k []) all k (omega arith) refl in
          firsts-snoc k ∙ ap₂ ◌++◌ rec (ap (map id_of) (keep-not first k (ne_eqb (place (get_or all k []) all) k d)))
          ∙ append-nil (up_to (length (distinct (take k all)))) ∙ sym (ap up_to (again-count all k (omega arith) (omega arith)))

      go : map id_of (keep first (up_to k)) ≡ up_to (length (distinct (take k all))) → (place (get_or all k []) all ≡ k) ⊎ (place (get_or all k []) all ≡ k → ⊥)
          → map id_of (keep first (up_to (suc k))) ≡ up_to (length (distinct (take (suc k) all)))
      go rec w = let one : k + 1 ≡ suc k = omega arith in rw (sym one) (⊎_elim (new rec) (again rec) w)

  firsts : map id_of (keep first (up_to (length all))) ≡ up_to (length (distinct all))
  firsts = firsts-to (length all) (omega arith) ∙ ap (λ (l : List Set). up_to (length l)) (distinct-all-of all (length all) (omega arith))

  -- ---- the order of sets is the order of their ids

  late-same : (x y : ℕ) → x < length all → y < length all → no_later all x y ≡ no_later (distinct all) (id_of x) (id_of y)
  unfolding no_later
  late-same x y p q = sym (ap₂ (λ (s t : Set). is_most (order s t)) (set-of-id all x p) (set-of-id all y q))

  module _ (asc : All (Ascending 0) all) where
    at : (x : ℕ) → x < length all → Ascending 0 (get_or all x [])
    at x h = all-get_or (Ascending 0) all x [] asc h

    late-trans : (x y z : ℕ) → x < length all → y < length all → z < length all
        → no_later all x y ≡ true → no_later all y z ≡ true → no_later all x z ≡ true
    unfolding no_later
    late-trans x y z p q r = order_trans (get_or all x []) (get_or all y []) (get_or all z []) (at x p) (at y q) (at z r)

    late-total : (x y : ℕ) → x < length all → y < length all → no_later all x y ≡ false → no_later all y x ≡ true
    unfolding no_later
    late-total x y p q = order-total (get_or all x []) (get_or all y []) (at x p) (at y q)

    -- the ids of the firsts in dense order, those that pass q
    dealt : (q : Set → Bool)
        → map id_of (keep (λ x. first x && q (get_or all x [])) (sorted (no_later all) (up_to (length all))))
        ≡ keep (λ k. q (get_or (distinct all) k [])) (dense (distinct all))
    unfolding dense
    dealt q =
        let n = length all in
        let low : All (λ x. x < n) (keep first (up_to n)) = keep_all first (λ x. x < n) (up_to n) (up-all n) in
        ap (map id_of) (sym (keep-keep passes first (sorted (no_later all) (up_to n))))
        ∙ ap (λ (l : List ℕ). map id_of (keep passes l)) (keep-sorted (λ x. x < n) (no_later all) late-trans late-total first (up_to n) (up-all n))
        ∙ ap (λ (l : List ℕ). map id_of (keep passes l)) (sorted-same (λ x. x < n) (no_later all) late late-same (keep first (up_to n)) low)
        ∙ ap (map id_of) (keep_same passes (λ x. passes_id (id_of x)) (sorted late (keep first (up_to n)))
        (all-imp (λ x h. sym (ap q (set-of-id all x h))) (sorted late (keep first (up_to n))) (sorted_all late (λ x. x < n) (keep first (up_to n)) low)))
        ∙ sym (keep-map id_of passes_id (sorted late (keep first (up_to n))))
        ∙ ap (keep passes_id) (sym (sorted-map id_of (no_later (distinct all)) (keep first (up_to n))))
        ∙ ap (λ (l : List ℕ). keep passes_id (sorted (no_later (distinct all)) l)) firsts
      where
        late : ℕ → ℕ → Bool
        late x y = no_later (distinct all) (id_of x) (id_of y)

        passes : ℕ → Bool
        passes x = q (get_or all x [])

        passes_id : ℕ → Bool
        passes_id k = q (get_or (distinct all) k [])

-- THE LAW: the sets in dense order, of equal ones the first alone, those that pass q: their ids are the ids in dense order of the distinct sets that pass q
pub dealt-ids : (all : List Set) → All (Ascending 0) all → (q : Set → Bool)
    → map (λ x. get_or (shared_ids all) x 0) (keep (λ x. eqb (place (get_or all x []) all) x && q (get_or all x [])) (sorted (no_later all) (up_to (length all))))
    ≡ keep (λ k. q (get_or (distinct all) k [])) (dense (distinct all))
dealt-ids all asc q = dealt all asc q
