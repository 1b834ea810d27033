-- What is packed stands before the tables of a word a region: the words up to there have all of it. Assumes nothing.
use mathlib.Core.Path.{◌≡◌, refl, sym, ap, ◌∙◌}
use mathlib.Core.List.{List, [], ◌∷◌}
use Prim.Native.Nat.{ℕ, zero, suc, ◌+◌, ◌*◌, ◌≤◌, ◌<◌}
use native.Mathlib.Omega.{arith}
use lib.ListN.{length, get_or, take}
use lib.Seq.{get_or-take, length-take-le}
use Rattle.laws.specs.LentRange.{Only, seg}
use Rattle.laws.proofs.BagLaws.{sum_same}
use Rattle.laws.proofs.BoundedLaws.{tabulate-same}
use Rattle.sets.specs.Lent.{Held, count_of, entries, entries_at, set_of}
use Rattle.rows.proofs.InWork.{seg-take, take-only}
use Rattle.store.specs.Lent.{coords_at, coords_in, final_at, finals_at}
use Rattle.encoder.specs.declared.places.Places.{Places}
use Rattle.encoder.specs.declared.encoded.Encoded.{Encoded}
use Rattle.encoder.specs.Packed.{Packed}
use Rattle.encoder.specs.Lent.{FinalIn, PackedAt, group_at, origins_in, relabel}
use Rattle.finishing.specs.Lent.{FinishFit, WordsFit}

-- ---- sets

module _ (w : List ℕ) (s : ℕ) where
  entries-front : (m a : ℕ) → a + 2 * m ≤ s → entries a m (take s w) ≡ entries a m w
  unfolding entries
  entries-front zero a h = refl
  entries-front (suc m) a h =
      rw (get_or-take s w a 0 (omega arith), get_or-take s w (a + 1) 0 (omega arith), entries-front m (a + 2) (omega arith))

  module _ (room : s ≤ length w) {n regions end : ℕ} (h : Held w 0 n regions end) (to : end ≤ s) where
    start-front : (x : ℕ) → x < n → entries_at 0 x (take s w) ≡ entries_at 0 x w
    start-front x l = get_or-take s w (0 + 2 * x) 0 (omega (arith, h.rows))

    count-front : (x : ℕ) → x < n → count_of 0 x (take s w) ≡ count_of 0 x w
    count-front x l = get_or-take s w (0 + 2 * x + 1) 0 (omega (arith, h.rows))

    set_front : (x : ℕ) → x < n → set_of 0 x (take s w) ≡ set_of 0 x w
    unfolding set_of
    set_front x l = rw (start-front x l, count-front x l) (entries-front (count_of 0 x w) (entries_at 0 x w) (omega (arith, h.body x l)))

    held-front : Held (take s w) 0 n regions end
    held-front = record {
      room = omega (arith, length-take-le s w room);
      rows = h.rows;
      body = λ x l. rw (start-front x l, count-front x l) (h.body x l);
      ascending = λ x l. rw (set_front x l) (h.ascending x l);
      proper = λ x l. rw (set_front x l) (h.proper x l);
    }

-- ---- what is packed

module _ (p : Places) (e : Encoded) (w : List ℕ) (s : ℕ) (to : p.rows + p.sets ≤ s) (room : s ≤ length w) where
  abbrev front : List ℕ
  front = take s w

  at : (i : ℕ) → i < s → get_or front i 0 ≡ get_or w i 0
  at i h = get_or-take s w i 0 h

  part : (a n : ℕ) → a + n ≤ s → seg a n front ≡ seg a n w
  part a n h = seg-take a n s w h room

  module _ (g : ℕ) (h : group_at p g + 3 ≤ p.rows) (f : FinalIn p w g) where
    shape_at : get_or front (group_at p g) 0 ≡ get_or w (group_at p g) 0
    shape_at = at (group_at p g) (omega arith)

    rows_at : get_or front (group_at p g + 1) 0 ≡ get_or w (group_at p g + 1) 0
    rows_at = at (group_at p g + 1) (omega arith)

    count_at : get_or front (group_at p g + 2) 0 ≡ get_or w (group_at p g + 2) 0
    count_at = at (group_at p g + 2) (omega arith)

    final-front : FinalIn p front g
    final-front = record {
      shape-to = rw shape_at f.shape-to;
      rows-from = rw rows_at f.rows-from;
      rows-to = rw (rows_at, count_at) f.rows-to;
      numbers = rw (rows_at, count_at, part (get_or w (group_at p g + 1) 0) (get_or w (group_at p g + 2) 0) (omega (arith, f.rows-to))) f.numbers;
    }

    group-front : final_at p.regions front (group_at p g) ≡ final_at p.regions w (group_at p g)
    unfolding final_at
    group-front = rw (
      shape_at,
      rows_at,
      count_at,
      part (get_or w (group_at p g) 0) p.regions (omega (arith, f.shape-to)),
      part (get_or w (group_at p g + 1) 0) (get_or w (group_at p g + 2) 0) (omega (arith, f.rows-to)),
    )

  module _ (k : Packed) (a : PackedAt k p e w) where
    group-to : (g : ℕ) → g < e.count → group_at p g + 3 ≤ p.rows
    group-to g h = omega (arith, a.finals-to)

    finals-front : finals_at p.regions p.finals e.count front ≡ finals_at p.regions p.finals e.count w
    unfolding finals_at
    finals-front =
        tabulate-same 0 e.count (λ g. final_at p.regions front (p.finals + 3 * g)) (λ g. final_at p.regions w (p.finals + 3 * g))
        (λ g l h. let b : g < e.count = omega arith in group-front g (group-to g b) (a.finals-in g b))

    order-at : (i : ℕ) → i < e.groups → get_or front (p.order + i) 0 ≡ get_or w (p.order + i) 0
    order-at i h = at (p.order + i) (omega (arith, a.order-to))

    origins-front : origins_in p e.groups front ≡ origins_in p e.groups w
    unfolding origins_in
    origins-front =
        tabulate-same 0 e.groups (λ i. get_or front (p.homes + get_or front (p.order + i) 0) 0) (λ i. get_or w (p.homes + get_or w (p.order + i) 0) 0)
        (λ i l h. let b : i < e.groups = omega arith in rw (order-at i b) (at (p.homes + get_or w (p.order + i) 0) (omega (arith, a.homes-to i b))))

    pub packed-front : PackedAt k p e front
    packed-front = record {
      held = held-front w s room a.held (omega (arith, a.line-to, a.ids-to, a.finals-to));
      sets-few = a.sets-few;
      regions-few = a.regions-few;
      line-to = a.line-to;
      ids-to = a.ids-to;
      finals-few = a.finals-few;
      finals-to = a.finals-to;
      rows-to = omega (arith, length-take-le s w room);
      log-to = a.log-to;
      order-to = a.order-to;
      homes-to = λ i h. rw (order-at i h) (a.homes-to i h);
      ids-are = part p.ids p.sets (omega (arith, a.ids-to, a.finals-to)) ∙ a.ids-are;
      sets-are = λ x h. a.sets-are x h ∙ sym (set_front w s room a.held (omega (arith, a.line-to, a.ids-to, a.finals-to)) x h);
      distinct-is = a.distinct-is;
      distinct-few = a.distinct-few;
      finals-in = λ g h. final-front g (group-to g h) (a.finals-in g h);
      rows_few = rw (sum_same (λ g. get_or w (group_at p g + 2) 0) (λ g. get_or front (group_at p g + 2) 0) e.count (λ g h. count_at g (group-to g h) (a.finals-in g h))) a.rows_few;
      finals-are = ap (relabel (λ x. get_or k.ids x 0)) finals-front ∙ a.finals-are;
      groups-is = a.groups-is;
      groups-few = a.groups-few;
      origins-are = origins-front ∙ a.origins-are;
      merges-is = a.merges-is;
      log-are = part p.log (3 * e.merges) (omega (arith, a.log-to)) ∙ a.log-are;
      weighed-is = a.weighed-is;
      before-is = a.before-is;
      after_is = a.after_is;
    }

  pub words-front : WordsFit p e w → WordsFit p e front
  words-front f = record {
    packed-as = f.packed-as;
    packed = packed-front f.packed-as f.packed;
    merges-few = f.merges-few;
    ids-below = λ x h. rw (at (p.ids + x) (omega (arith, f.packed.ids-to, f.packed.finals-to))) (f.ids-below x h);
  }

  module _ {axes starts : ℕ} {job : List ℕ} (f : FinishFit axes starts job p e w) where
    start-at : (r : ℕ) → r < p.regions → get_or front (starts + r) 0 ≡ get_or w (starts + r) 0
    start-at r h = at (starts + r) (omega (arith, f.starts-to))

    pub finish-front : FinishFit axes starts job p e front
    finish-front = record {
      axes-few = f.axes-few;
      packed-as = f.packed-as;
      packed = packed-front f.packed-as f.packed;
      starts-to = f.starts-to;
      sourced = λ r h. rw (start-at r h) (f.sourced r h);
      merges-few = f.merges-few;
      ids-below = λ x h. rw (at (p.ids + x) (omega (arith, f.packed.ids-to, f.packed.finals-to))) (f.ids-below x h);
    }

    pub coords-front : coords_in job axes front starts p.regions ≡ coords_in job axes w starts p.regions
    unfolding coords_in
    coords-front =
        tabulate-same 0 p.regions (λ r. coords_at job axes (get_or front (starts + r) 0)) (λ r. coords_at job axes (get_or w (starts + r) 0))
        (λ r l h. ap (coords_at job axes) (start-at r (omega arith)))

-- ---- what is behind it changes

pub front-stays : (s : ℕ) {a m : ℕ} {old new : List ℕ} → Only ((a, m) ∷ []) old new → s ≤ a → s ≤ length old → take s new ≡ take s old
front-stays s o b room = take-only o s room (λ k l. (record { apart = λ q. omega arith }, tt))
