-- The rows of the final groups are the sorted distinct sets, by the places that these have as ids: so two jobs that say the same sets have the same final
-- groups, with other numbers for their sets. Assumes nothing.
use mathlib.Core.Path.{◌≡◌, sym, ap, ◌∙◌}
use mathlib.Core.Bool.{Bool}
use mathlib.Core.List.{List, [], map, Memᴰ}
use Prim.Native.Nat.{ℕ, ◌<◌}
use native.Mathlib.Omega.{arith}
use lib.ListN.{length, get_or, length-map}
use lib.Seq.{ext_get_or}
use Rattle.laws.specs.Every.{All, EachTwo}
use Rattle.laws.specs.Bounded.{up_to}
use Rattle.laws.specs.Sorting.{sorted, keep}
use Rattle.laws.proofs.EveryLaws.{all, all-imp, all-intro, all-get_or}
use Rattle.laws.proofs.BagLaws.{bag-length}
use Rattle.laws.proofs.ListLaws.{get_or-map-in, map-map, map_same, map-self}
use Rattle.laws.proofs.SortLaws.{sorted_all, keep_same}
use Rattle.laws.proofs.SortMap.{sorted-map, keep-map, keep_all}
use Rattle.laws.proofs.UpLaws.{up-long, up_at}
use Rattle.shapes.specs.Group.{Group}
use Rattle.sets.specs.Set.{Set}
use Rattle.sets.specs.Ids.{place, distinct}
use Rattle.sets.proofs.IdLaws.{place_here, place-first}
use Rattle.rule.specs.Model.{Living, start, merged, total}
use Rattle.groups.specs.Groups.{groups_of}
use Rattle.store.specs.Placing.{Final}
use Rattle.encoder.specs.Packed.{Packed, no_later, dense, belongs, final_of, origins_of, is_ahead, finals_of, shared}
use Rattle.encoder.specs.Lent.{relabel}
use Rattle.encoder.proofs.DenseIds.{dense-below}
use Rattle.encoder.proofs.NumberLaws.{mem-at}
use Rattle.unordered.proofs.Alike.{not_later, line, Fine, place-own, distinct-differ, distinct-in, line_same, distinct-bag}
use Rattle.unordered.proofs.Groups.{groups-same}

-- ---- lists

-- the elements of a list by their places
map-up : (l : List Set) → map (λ x. get_or l x []) (up_to (length l)) ≡ l
map-up l =
    let long : length (map (λ x. get_or l x []) (up_to (length l))) ≡ length l = length-map (up_to (length l)) (λ x. get_or l x []) ∙ up-long (length l) in
    ext_get_or [] (map (λ x. get_or l x []) (up_to (length l))) l long
    (λ k h.
    let b : k < length l = omega arith in
    get_or-map-in (λ x. get_or l x []) (up_to (length l)) k 0 [] (omega (arith, up-long (length l))) ∙ ap (λ (i : ℕ). get_or l i []) (up_at (length l) k b))

-- ---- ids in dense order are the places of the sorted sets

module _ (l : List Set) (differ : EachTwo (λ x y. x ≡ y → ⊥) l) where
  -- the set at the place of z is z
  here-all : All (λ z. get_or l (place z l) [] ≡ z) (sorted not_later l)
  here-all = sorted_all not_later (λ z. get_or l (place z l) [] ≡ z) l
      (all-intro (λ z. get_or l (place z l) [] ≡ z) l [] (λ k h. ap (λ (i : ℕ). get_or l i []) (place-own l differ k h)))

  dense-sets : sorted not_later l ≡ map (λ x. get_or l x []) (dense l)
  unfolding dense no_later
  dense-sets = ap (sorted not_later) (sym (map-up l)) ∙ sorted-map (λ x. get_or l x []) not_later (up_to (length l))

  dense-places : dense l ≡ map (λ z. place z l) (sorted not_later l)
  dense-places =
      sym (map-self (λ x. place (get_or l x []) l) (dense l) (all-imp (λ x h. place-own l differ x h) (dense l) (dense-below l)))
      ∙ sym (map-map (λ z. place z l) (λ x. get_or l x []) (dense l))
      ∙ ap (map (λ z. place z l)) (sym dense-sets)

  -- those that pass a test
  kept-places : (q : Set → Bool) → keep (λ x. q (get_or l x [])) (dense l) ≡ map (λ z. place z l) (keep q (sorted not_later l))
  kept-places q =
      ap (keep (λ x. q (get_or l x []))) dense-places
      ∙ keep-map (λ z. place z l) (λ x. q (get_or l x [])) (sorted not_later l)
      ∙ ap (map (λ z. place z l))
      (keep_same (λ z. q (get_or l (place z l) [])) q (sorted not_later l) (all-imp (λ z e. ap q e) (sorted not_later l) here-all))

  -- and by their places in another list
  renamed : (m : List Set) (q : Set → Bool)
      → map (λ x. place (get_or l x []) m) (map (λ z. place z l) (keep q (sorted not_later l))) ≡ map (λ z. place z m) (keep q (sorted not_later l))
  renamed m q =
      map-map (λ x. place (get_or l x []) m) (λ z. place z l) (keep q (sorted not_later l))
      ∙ map_same (λ z. place (get_or l (place z l) []) m) (λ z. place z m) (keep q (sorted not_later l))
      (keep_all q (λ z. place (get_or l (place z l) []) m ≡ place z m) (sorted not_later l)
      (all-imp (λ z e. ap (λ (y : Set). place y m) e) (sorted not_later l) here-all))

-- ---- two lists of sets with the same members

-- packed sets that differ by the numbers of the sets alone: number x of the one is number f x of the other
pub record Renamed (f : ℕ → ℕ) (k m : Packed) : Type 0 where
  pub finals-are : relabel f k.finals ≡ m.finals
  pub below : (x : ℕ) → x < length k.sets → f x < length m.sets
  pub sets-are : (x : ℕ) → x < length k.sets → get_or k.sets x [] ≡ get_or m.sets (f x) []
  pub count-is : length k.sets ≡ length m.sets
  pub groups-are : k.groups ≡ m.groups
  pub origins-are : k.origins ≡ m.origins
  pub log_is : k.log ≡ m.log
  pub weighed-is : k.weighed ≡ m.weighed
  pub before-is : k.before ≡ m.before
  pub after_is : k.after ≡ m.after

module _ (regions : ℕ) (s t : List Set) (fine-s : All (Fine regions) s) (fine-t : All (Fine regions) t)
    (there : (x : Set) → Memᴰ x s → Memᴰ x t) (back : (x : Set) → Memᴰ x t → Memᴰ x s) where
  -- the id that the set of id x has in the other job
  abbrev pub new_id : ℕ → ℕ
  new_id x = place (get_or (distinct s) x []) (distinct t)

  abbrev lines : line s ≡ line t
  lines = line_same regions s t fine-s fine-t there back

  final-same : (gs : List Group) (g : Living)
      → record { shape = (final_of regions gs (distinct s) g).shape; ids = map new_id (final_of regions gs (distinct s) g).ids } ≡ final_of regions gs (distinct t) g
  unfolding final_of
  final-same gs g =
      let q : Set → Bool = belongs regions gs g in
      let e : map new_id (keep (λ x. q (get_or (distinct s) x [])) (dense (distinct s))) ≡ keep (λ x. q (get_or (distinct t) x [])) (dense (distinct t)) =
      ap (map new_id) (kept-places (distinct s) (distinct-differ s) q)
      ∙ renamed (distinct s) (distinct-differ s) (distinct t) q
      ∙ ap (λ (l : List Set). map (λ z. place z (distinct t)) (keep q l)) lines
      ∙ sym (kept-places (distinct t) (distinct-differ t) q) in
      (λ i. record { shape = g.group.shape; ids = e i })

  finals-same : (gs : List Group) → relabel new_id (finals_of regions gs (distinct s)) ≡ finals_of regions gs (distinct t)
  unfolding relabel finals_of
  finals-same gs =
      map-map (λ (g : Final). record { shape = g.shape; ids = map new_id g.ids }) (final_of regions gs (distinct s)) (sorted is_ahead (merged gs).living)
      ∙ map_same (λ (g : Living). record { shape = (final_of regions gs (distinct s) g).shape; ids = map new_id (final_of regions gs (distinct s) g).ids })
      (final_of regions gs (distinct t)) (sorted is_ahead (merged gs).living) (all (final-same gs) (sorted is_ahead (merged gs).living))

  abbrev groups-are : groups_of regions s ≡ groups_of regions t
  groups-are = groups-same regions s t fine-s fine-t there back

  id-low : (x : ℕ) → x < length (distinct s) → new_id x < length (distinct t)
  id-low x h =
      let a = mem-at (distinct t) [] (get_or (distinct s) x []) (all-get_or (λ (y : Set). Memᴰ y (distinct t)) (distinct s) x [] (distinct-in s t there) h) in
      omega (arith, a.below, place-first (get_or (distinct s) x []) (distinct t) a.place a.below a.is)

  -- THE LAW
  pub shared_same : Renamed new_id (shared regions s) (shared regions t)
  unfolding shared
  shared_same = record {
    finals-are = finals-same (groups_of regions s) ∙ ap (λ (gs : List Group). finals_of regions gs (distinct t)) groups-are;
    below = id-low;
    sets-are = λ x h. sym (place_here (get_or (distinct s) x []) (distinct t) (id-low x h));
    count-is = bag-length (distinct s) (distinct t) (distinct-bag regions s t fine-s fine-t there back);
    groups-are = ap length groups-are;
    origins-are = ap origins_of groups-are;
    log_is = ap (λ (gs : List Group). (merged gs).log) groups-are;
    weighed-is = ap (λ (gs : List Group). (merged gs).weighed) groups-are;
    before-is = ap (λ (gs : List Group). total (start gs).living) groups-are;
    after_is = ap (λ (gs : List Group). total (merged gs).living) groups-are;
  }
