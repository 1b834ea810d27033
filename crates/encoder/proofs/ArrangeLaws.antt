-- The final groups in their order, each one's home known, and the sets dealt to them: what each step of `arrange` asks and leaves. Assumes nothing.
use mathlib.Core.Path.{◌≡◌, refl, sym, ap, subst, ◌∙◌}
use mathlib.Core.Bool.{◌&&◌}
use mathlib.Core.List.{List, [], ◌∷◌, ◌++◌}
use mathlib.Core.Logic.{⊎_elim}
use Prim.Native.Nat.{ℕ, ◌+◌, ◌-◌, ◌*◌, ◌≤◌, ◌<◌}
use native.Mathlib.Omega.{arith}
use lib.Dec.{eqb}
use lib.ListN.{length, get_or, take, drop, length-append}
use lib.Seq.{ext_get_or}
use Rattle.laws.specs.LentRange.{Only, seg}
use Rattle.laws.specs.Sorting.{keep}
use Rattle.laws.proofs.Cases.{lt-or-ge}
use Rattle.laws.proofs.Products.{row_fits}
use Rattle.laws.proofs.RangeLaws.{apart-part, only-trans, only-join, only-widen, only-weaken, seg-ext, length-seg, get_or-seg, all-seg}
use Rattle.laws.proofs.BagLaws.{sum_same}
use Rattle.laws.proofs.SortLaws.{keep_same}
use Rattle.laws.proofs.SortMap.{length-sorted}
use Rattle.laws.proofs.Pigeon.{onto}
use Rattle.finals.specs.declared.Line.{Line}
use Rattle.finals.proofs.RowLaws.{rows_all}
use Rattle.ordering.specs.LentLiving.{no_later, living_in, LivingSorted}
use Rattle.dealing.specs.LentHomes.{SpotsFit, SpotsAt, HomesFit, HomesAt, HeadsFit, HeadsAt, heir_place}
use Rattle.finals.specs.Lent.{goes_to, rows_of, home_in, DealFit, Dealt}
use Rattle.encoder.specs.declared.places.Places.{Places}
use Rattle.encoder.specs.LentPlaces.{Laid}
use Rattle.encoder.specs.Lent.{group_at}
use Rattle.encoder.specs.LentArranged.{living_at, living_line, LineFit, LinedUp, heir_slot, goes, HomedFit, Homed, SharedFit, SharedOut, ArrangeFit, Arranged}
use Rattle.groups.proofs.PartLaws.{Around, front-part, front-length, behind-part, behind-length, before-at, between-at, tail-at, only-between}

-- ---- the line of the living

module _ {p : Places} {groups k : ℕ} {w : List ℕ} (f : LineFit p groups k w) {w₁ : List ℕ} {r : ℕ} (l : LivingSorted (living_at p) p.place k w w₁ r) where
  line-count : r ≡ length (living_line p k w)
  unfolding living_line
  line-count = l.count ∙ sym (length-sorted (no_later (living_at p) w) (living_in w p.place k))

  pub count-most : r ≤ groups
  count-most = omega (arith, line-count, f.living-few)

  line_at : (q : ℕ) → q < r → get_or w₁ (p.living + q) 0 ≡ get_or (living_line p k w) q 0
  unfolding living_line
  line_at q h = sym (get_or-seg p.living r w₁ q h) ∙ ap (λ (z : List ℕ). get_or z q 0) l.is

  module _ {front behind : List ℕ} (a : Around p.spots (p.spots + groups) w₁ front behind) where
    order_at : (q : ℕ) → q < r → get_or (take (p.living + r - p.living) (drop p.living front)) q 0 ≡ get_or (living_line p k w) q 0
    order_at q h = front-part a p.living (p.living + r) q (omega arith) (omega (arith, count-most, f.few, f.laid)) ∙ line_at q h

    order-long : length (take (p.living + r - p.living) (drop p.living front)) ≡ r
    order-long = front-length a p.living (p.living + r) (omega (arith, count-most, f.few, f.laid)) ∙ omega arith

    pub line-spots : SpotsFit (take (p.living + r - p.living) (drop p.living front)) groups
    line-spots =
        let n = line-count in
        record {
          few = omega (arith, order-long, count-most, f.few, f.laid);
          below = λ q h. rw (order_at q (omega (arith, order-long))) (f.below q (omega (arith, order-long)));
          apart = λ q s x y e. f.apart q s x (omega (arith, order-long)) (sym (order_at q (omega (arith, order-long))) ∙ e ∙ order_at s (omega (arith, order-long)));
        }

    pub lined-up : (spot : List ℕ) → length spot ≡ groups → SpotsAt (take (p.living + r - p.living) (drop p.living front)) spot → LinedUp p groups k w (front ++ (spot ++ behind)) r
    lined-up spot long s =
        let n = line-count in
        let few = f.living-few in
        let to : p.spots + length spot ≡ p.spots + groups = omega arith in
        let o : Only ((p.spots, groups) ∷ []) w₁ (front ++ (spot ++ behind)) = subst (λ (z : ℕ). Only ((p.spots, z) ∷ []) w₁ (front ++ (spot ++ behind))) long (only-between a _ to) in
        record {
          only = only-join {rs = (p.living, p.room) ∷ []} {ss = (p.spots, p.room) ∷ []}
              (only-widen p.living p.room (omega arith) (omega (arith, l.count, f.few)) l.only)
              (only-widen p.spots p.room (omega arith) (omega (arith, f.few)) o);
          count-is = n;
          at = λ q h. o.kept (p.living + q) (record { apart = λ x. absurd (omega (arith, f.laid, f.few)) }, tt) ∙ line_at q h;
          spot = λ q h.
              let b : get_or (living_line p k w) q 0 < length spot = omega (arith, long, f.below q (omega arith)) in
              between-at a _ _ to (get_or (living_line p k w) q 0) b ∙ subst (λ (z : ℕ). get_or spot z 0 ≡ q) (order_at q h) (s q (omega (arith, order-long)));
        }

-- ---- the homes

module _ {p : Places} {groups : ℕ} {w : List ℕ} (f : HomedFit p groups w) {front behind : List ℕ} (a : Around p.homes (p.homes + groups) w front behind) where
  abbrev at : ℕ
  at = p.homes + groups

  abbrev from : List ℕ
  from = take (p.order + groups - p.order) (drop p.order front)

  abbrev into : List ℕ
  into = take (p.log - at - (p.into - at)) (drop (p.into - at) behind)

  abbrev place : List ℕ
  place = take (p.costs - at - (p.place - at)) (drop (p.place - at) behind)

  abbrev spot : List ℕ
  spot = take (p.into - at - (p.spots - at)) (drop (p.spots - at) behind)

  from-long : length from ≡ groups
  from-long = front-length a p.order (p.order + groups) (omega (arith, f.laid, f.few)) ∙ omega arith

  from_at : (i : ℕ) → i < groups → get_or from i 0 ≡ get_or w (p.order + i) 0
  from_at i h = front-part a p.order (p.order + groups) i (omega arith) (omega (arith, f.laid, f.few))

  into_at : (i : ℕ) → i < groups → get_or into i 0 ≡ get_or w (p.into + i) 0
  into_at i h = behind-part a p.into p.log i (omega (arith, f.laid, f.few)) (omega (arith, f.laid, f.few))

  heir_at : (i : ℕ) → i < groups → heir_place into place i ≡ get_or w (p.place + get_or w (p.into + i) 0) 0
  heir_at i h = ap (λ (z : ℕ). get_or place z 0) (into_at i h) ∙ behind-part a p.place p.costs (get_or w (p.into + i) 0) (omega (arith, f.laid, f.few)) (omega (arith, f.laid, f.heir i h))

  pub homes-fit : HomesFit from into place (length spot) groups
  homes-fit = record {
    all = omega (arith, from-long, behind-length a p.into p.log (omega (arith, f.laid, f.few)) (omega (arith, f.laid)) (omega (arith, f.laid)), f.laid, f.few);
    below = λ i h. rw (from_at i (omega (arith, from-long))) (f.below i (omega (arith, from-long)));
    apart = λ i j x y e. f.apart i j x (omega (arith, from-long)) (sym (from_at i (omega (arith, from-long))) ∙ e ∙ from_at j (omega (arith, from-long)));
    heir = λ i h. omega (
      arith,
      into_at i (omega (arith, from-long)),
      f.heir i (omega (arith, from-long)),
      behind-length a p.place p.costs (omega (arith, f.laid, f.few)) (omega (arith, f.laid)) (omega (arith, f.laid)),
      f.laid,
    );
    lives = λ i h. rw (heir_at i (omega (arith, from-long))) (f.lives i (omega (arith, from-long)));
    spot-to = λ i h. omega (
      arith,
      heir_at i (omega (arith, from-long)),
      f.slot i (omega (arith, from-long)),
      behind-length a p.spots p.into (omega (arith, f.laid, f.few)) (omega (arith, f.laid)) (omega (arith, f.laid)),
      f.laid,
      f.few,
    );
  }

  pub homed : (home : List ℕ) → length home ≡ groups → HomesAt from into place spot home → Homed p groups w (front ++ (home ++ behind))
  homed home long m =
      let to : p.homes + length home ≡ p.homes + groups = omega arith in
      record {
        only = subst (λ (z : ℕ). Only ((p.homes, z) ∷ []) w (front ++ (home ++ behind))) long (only-between a _ to);
        at = λ i h.
            let b : get_or w (p.order + i) 0 < length home = omega (arith, long, f.below i h) in
            between-at a _ _ to (get_or w (p.order + i) 0) b
            ∙ subst (λ (z : ℕ). get_or home z 0 ≡ get_or spot (heir_place into place i - 1) 0) (from_at i h) (m i (omega (arith, from-long)))
            ∙ ap (λ (z : ℕ). get_or spot (z - 1) 0) (heir_at i h)
            ∙ behind-part a p.spots p.into (heir_slot p w i) (omega (arith, f.laid, f.few)) (omega (arith, f.laid, f.few, f.slot i h));
      }

-- ---- heads and rows

-- the tables that sets are dealt by are parts of the words
pub record LineAt (p : Places) (groups : ℕ) (w : List ℕ) (t : Line) : Type 0 where
  pub line-long : length t.line.now ≡ p.sets
  pub first-long : length t.first.now ≡ p.sets
  pub kinds-long : length t.kinds.now ≡ p.sets
  pub home-long : length t.home.now ≡ groups
  pub line_at : (k : ℕ) → k < p.sets → get_or t.line.now k 0 ≡ get_or w (p.line + k) 0
  pub first_at : (k : ℕ) → k < p.sets → get_or t.first.now k 0 ≡ get_or w (p.first + k) 0
  pub kinds_at : (k : ℕ) → k < p.sets → get_or t.kinds.now k 0 ≡ get_or w (p.kinds + k) 0
  pub home_at : (k : ℕ) → k < groups → get_or t.home.now k 0 ≡ get_or w (p.homes + k) 0

module _ {p : Places} {groups count : ℕ} {w : List ℕ} (f : SharedFit p groups count w) {front behind : List ℕ} (a : Around p.finals (p.finals + 3 * count) w front behind) where
  abbrev order : List ℕ
  order = take (p.living + count - p.living) (drop p.living front)

  order_is : (q : ℕ) → q < count → get_or order q 0 ≡ get_or w (p.living + q) 0
  order_is q h = front-part a p.living (p.living + count) q (omega arith) (omega (arith, f.laid, f.few, f.count-few))

  order-is-long : length order ≡ count
  order-is-long = front-length a p.living (p.living + count) (omega (arith, f.laid, f.few, f.count-few)) ∙ omega arith

  slot-few : (q : ℕ) → q < count → p.slots + get_or w (p.living + q) 0 * p.regions < 4294967296
  slot-few q h =
      let b = f.slot q h in
      let r = row_fits p.regions (p.room + 1) (get_or w (p.living + q) 0) (omega (arith, f.few)) in
      omega (arith, f.laid)

  pub heads-fit : HeadsFit p.slots p.regions order (3 * count)
  heads-fit = record {
    room = omega (arith, order-is-long);
    few = λ q h. rw (order_is q (omega (arith, order-is-long))) (slot-few q (omega (arith, order-is-long)));
  }

  pub line-parts : {t : Line} → t.line.now ≡ take (p.line + p.sets - p.line) (drop p.line front)
      → t.first.now ≡ take (p.first + p.sets - p.first) (drop p.first front)
      → t.kinds.now ≡ take (p.kinds + p.sets - p.kinds) (drop p.kinds front)
      → t.home.now ≡ take (p.homes + groups - p.homes) (drop p.homes front)
      → LineAt p groups w t
  line-parts {t} x y z h =
      let line-to : p.line + p.sets ≤ p.finals = omega (arith, f.laid) in
      let first-to : p.first + p.sets ≤ p.finals = omega (arith, f.laid) in
      let kinds-to : p.kinds + p.sets ≤ p.finals = omega (arith, f.laid) in
      let homes-to : p.homes + groups ≤ p.finals = omega (arith, f.laid, f.few) in
      record {
        line-long = ap length x ∙ front-length a p.line (p.line + p.sets) line-to ∙ omega arith;
        first-long = ap length y ∙ front-length a p.first (p.first + p.sets) first-to ∙ omega arith;
        kinds-long = ap length z ∙ front-length a p.kinds (p.kinds + p.sets) kinds-to ∙ omega arith;
        home-long = ap length h ∙ front-length a p.homes (p.homes + groups) homes-to ∙ omega arith;
        line_at = λ k g. ap (λ (s : List ℕ). get_or s k 0) x ∙ front-part a p.line (p.line + p.sets) k (omega arith) line-to;
        first_at = λ k g. ap (λ (s : List ℕ). get_or s k 0) y ∙ front-part a p.first (p.first + p.sets) k (omega arith) first-to;
        kinds_at = λ k g. ap (λ (s : List ℕ). get_or s k 0) z ∙ front-part a p.kinds (p.kinds + p.sets) k (omega arith) kinds-to;
        home_at = λ k g. ap (λ (s : List ℕ). get_or s k 0) h ∙ front-part a p.homes (p.homes + groups) k (omega arith) homes-to;
      }

  module _ {t : Line} (n : LineAt p groups w t) where
    home_is : (x : ℕ) → x < p.sets → home_in t x ≡ get_or w (p.homes + get_or w (p.kinds + x) 0) 0
    home_is x h = ap (λ (z : ℕ). get_or t.home.now z 0) (n.kinds_at x h) ∙ n.home_at (get_or w (p.kinds + x) 0) (f.kind x h)

    pub deal-fit : DealFit t p.rows (3 * count) p.sets
    deal-fit = record {
      line = record {
        few = omega (arith, n.line-long, f.laid);
        number = λ q h. omega (arith, n.line-long, n.first-long, n.line_at q (omega (arith, n.line-long)), f.number q (omega (arith, n.line-long)));
        kinds-long = omega (arith, n.first-long, n.kinds-long);
        slot = λ x h. omega (arith, n.first-long, n.home-long, n.kinds_at x (omega (arith, n.first-long)), f.kind x (omega (arith, n.first-long)));
        group = λ x h. omega (
          arith,
          n.first-long,
          home_is x (omega (arith, n.first-long)),
          f.home (get_or w (p.kinds + x) 0) (f.kind x (omega (arith, n.first-long))),
        );
      };
      room = omega (arith, n.line-long);
      few = omega (arith, n.line-long, f.laid);
    }

    line_same : t.line.now ≡ seg p.line p.sets w
    line_same = ext_get_or 0 t.line.now (seg p.line p.sets w)
        (n.line-long ∙ sym (length-seg p.line p.sets w (omega (arith, f.laid))))
        (λ k h. n.line_at k (omega (arith, n.line-long)) ∙ sym (get_or-seg p.line p.sets w k (omega (arith, n.line-long))))

    goes_same : (q x : ℕ) → x < p.sets → goes_to t q x ≡ goes p w q x
    unfolding goes_to
    goes_same q x h = rw (n.first_at x h, home_is x h) refl

    number_at : (j : ℕ) → p.line ≤ j → j < p.line + p.sets → get_or w j 0 < p.sets
    number_at j x y =
        let e : p.line + (j - p.line) ≡ j = omega arith in
        subst (λ (z : ℕ). get_or w z 0 < p.sets) e (f.number (j - p.line) (omega arith))

    rows-are : (q : ℕ) → rows_of t q t.line.now ≡ keep (goes p w q) (seg p.line p.sets w)
    unfolding rows_of
    rows-are q = ap (keep (goes_to t q)) line_same
        ∙ keep_same (goes_to t q) (goes p w q) (seg p.line p.sets w)
        (all-seg _ p.sets p.line w (omega (arith, f.laid)) (λ j x y. goes_same q (get_or w j 0) (number_at j x y)))

    module _ {between behind' blank heads finals free rows : List ℕ} (b : Around (p.rows - (p.finals + 3 * count)) (p.rows - (p.finals + 3 * count) + p.sets) behind between behind')
        (finals-long : length finals ≡ 3 * count) (rows-long : length rows ≡ p.sets)
        (h : HeadsAt p.slots p.regions order blank heads) (d : Dealt t p.rows heads finals free rows) where
      abbrev new : List ℕ
      new = front ++ (finals ++ (between ++ (rows ++ behind')))

      abbrev gap : ℕ
      gap = p.rows - (p.finals + 3 * count)

      to : p.finals + length finals ≡ p.finals + 3 * count
      to = omega (arith, finals-long)

      rows-to : gap + length rows ≡ gap + p.sets
      rows-to = omega (arith, rows-long)

      final-at : (k : ℕ) → k < 3 * count → get_or new (p.finals + k) 0 ≡ get_or finals k 0
      final-at k l = between-at a _ _ to k (omega (arith, finals-long))

      row-at : (k : ℕ) → k < p.sets → get_or new (p.rows + k) 0 ≡ get_or rows k 0
      row-at k l =
          let i : p.finals + 3 * count + (gap + k) ≡ p.rows + k = omega (arith, f.laid, f.few, f.count-few) in
          ap (λ (j : ℕ). get_or new j 0) (sym i) ∙ tail-at a _ _ to (gap + k) ∙ between-at b _ _ rows-to k (omega (arith, rows-long))

      start-at : (q : ℕ) → q < count → get_or new (group_at p q + 1) 0 ≡ get_or finals (3 * q + 1) 0
      start-at q l = let i : p.finals + (3 * q + 1) ≡ p.finals + 3 * q + 1 = omega arith in ap (λ (j : ℕ). get_or new j 0) (sym i) ∙ final-at (3 * q + 1) (omega arith)

      count-at : (q : ℕ) → q < count → get_or new (group_at p q + 2) 0 ≡ get_or finals (3 * q + 2) 0
      count-at q l = let i : p.finals + (3 * q + 2) ≡ p.finals + 3 * q + 2 = omega arith in ap (λ (j : ℕ). get_or new j 0) (sym i) ∙ final-at (3 * q + 2) (omega arith)

      group-in : (q : ℕ) → q < count → 3 * q + 2 < length finals
      group-in q l = omega (arith, finals-long)

      room-in : (q : ℕ) → q < count → (p.rows ≤ get_or finals (3 * q + 1) 0) × (get_or finals (3 * q + 1) 0 + get_or finals (3 * q + 2) 0 ≤ p.rows + p.sets)
      room-in q l = let r = d.room q (group-in q l) in (r.0, omega (arith, r.1, n.line-long))

      only-rows : Only ((gap, p.sets) ∷ []) behind (between ++ (rows ++ behind'))
      only-rows = subst (λ (z : ℕ). Only ((gap, z) ∷ []) behind (between ++ (rows ++ behind'))) rows-long (only-between b _ rows-to)

      only-all : Only ((p.finals, 3 * count) ∷ (p.rows, p.sets) ∷ []) w new
      only-all = record {
        long = omega (arith, length-append front (finals ++ (between ++ (rows ++ behind'))), length-append finals (between ++ (rows ++ behind')), finals-long, a.front-long, a.behind-long, only-rows.long);
        kept = λ k o. ⊎_elim
            (λ (l : k < p.finals). before-at a _ _ to k l)
            (λ l.
            let g : p.finals + 3 * count ≤ k = o.0.apart (omega arith) in
            let i : p.finals + 3 * count + (k - (p.finals + 3 * count)) ≡ k = omega arith in
            rw i at (tail-at a _ _ to (k - (p.finals + 3 * count))
            ∙ only-rows.kept (k - (p.finals + 3 * count)) (record { apart = λ x. omega (arith, o.1.0.apart (omega (arith, f.laid, f.few, f.count-few)), f.laid, f.few, f.count-few) }, tt)
            ∙ a.behind-at (k - (p.finals + 3 * count))))
            (lt-or-ge k p.finals);
      }

      size-at : (q : ℕ) → q < count → get_or new (group_at p q + 2) 0 ≡ length (rows_of t q t.line.now)
      size-at q l =
          let r = room-in q l in
          count-at q l ∙ sym (length-seg (get_or finals (3 * q + 1) 0 - p.rows) (get_or finals (3 * q + 2) 0) rows (omega (arith, r.0, r.1, rows-long))) ∙ ap length (d.rows q (group-in q l))

      pub shared-out : SharedOut p count w new
      shared-out = record {
        only = only-all;
        shape = λ q l. final-at (3 * q) (omega arith) ∙ d.shape q ∙ h.at q (omega (arith, order-is-long)) ∙ ap (λ (z : ℕ). p.slots + z * p.regions) (order_is q l);
        rows_in = λ q l. rw (start-at q l, count-at q l) (room-in q l);
        rows_few = omega (
          arith,
          sum_same (λ q. length (rows_of t q t.line.now)) (λ q. get_or new (group_at p q + 2) 0) count size-at,
          rows_all t count t.line.now,
          n.line-long,
        );
        rows = λ q l.
            let r = room-in q l in
            rw (start-at q l, count-at q l)
            (seg-ext (get_or finals (3 * q + 1) 0) (get_or finals (3 * q + 1) 0 - p.rows) (get_or finals (3 * q + 2) 0) new rows
            (omega (arith, r.0, r.1, only-all.long, f.laid))
            (omega (arith, r.0, r.1, rows-long))
            (λ i g. row-from q l i g)
            ∙ d.rows q (group-in q l) ∙ rows-are q);
      }
        where
          row-from : (q : ℕ) → q < count → (i : ℕ) → i < get_or finals (3 * q + 2) 0 → get_or new (get_or finals (3 * q + 1) 0 + i) 0 ≡ get_or rows (get_or finals (3 * q + 1) 0 - p.rows + i) 0
          row-from q l i g =
              let r = room-in q l in
              let e : p.rows + (get_or finals (3 * q + 1) 0 - p.rows + i) ≡ get_or finals (3 * q + 1) 0 + i = omega (arith, r.0) in
              ap (λ (j : ℕ). get_or new j 0) (sym e) ∙ row-at (get_or finals (3 * q + 1) 0 - p.rows + i) (omega (arith, r.0, r.1))

-- ---- all of it

-- what `arrange` writes
abbrev arranged_in : Places → List (ℕ × ℕ)
arranged_in p = (p.homes, p.room) ∷ (p.living, p.room) ∷ (p.finals, 3 * p.room) ∷ (p.rows, p.sets) ∷ []

module _ {p : Places} {groups k : ℕ} {w : List ℕ} (f : ArrangeFit p groups k w) {w₁ : List ℕ} {count : ℕ} (l : LinedUp p groups k w w₁ count) where
  lies : Laid p (length w)
  lies = f.line.laid

  few : groups ≤ p.room
  few = f.line.few

  count-few : count ≤ groups
  count-few = omega (arith, l.count-is, f.line.living-few)

  low₁ : (i : ℕ) → i < p.living → get_or w₁ i 0 ≡ get_or w i 0
  low₁ i h = l.only.kept i (record { apart = λ x. absurd (omega arith) }, (record { apart = λ x. absurd (omega (arith, lies)) }, tt))

  high₁ : (i : ℕ) → p.into ≤ i → get_or w₁ i 0 ≡ get_or w i 0
  high₁ i h = l.only.kept i (record { apart = λ x. omega (arith, lies) }, (record { apart = λ x. omega (arith, lies) }, tt))

  into₁ : (i : ℕ) → get_or w₁ (p.into + i) 0 ≡ get_or w (p.into + i) 0
  into₁ i = high₁ (p.into + i) (omega arith)

  heir₁ : (i : ℕ) → i < groups → get_or w₁ (p.place + get_or w₁ (p.into + i) 0) 0 ≡ get_or w (p.place + get_or w (p.into + i) 0) 0
  heir₁ i h = rw (into₁ i) (low₁ (p.place + get_or w (p.into + i) 0) (omega (arith, lies, f.heir-below i h)))

  order₁ : (i : ℕ) → i < groups → get_or w₁ (p.order + i) 0 ≡ get_or w (p.order + i) 0
  order₁ i h = low₁ (p.order + i) (omega (arith, lies, few))

  heir-few : (i : ℕ) → i < groups → heir_slot p w i < groups
  heir-few i h =
      let q = f.heir-at i h in
      let b = f.line.below q.0 q.1 in
      omega (arith, q.2)

  pub homed-fit : HomedFit p groups w₁
  homed-fit = record {
    laid = rw l.only.long lies;
    few = few;
    below = λ i h. rw (order₁ i h) (f.from-below i h);
    apart = λ i j a b e. f.from-apart i j a b (sym (order₁ i (omega arith)) ∙ e ∙ order₁ j b);
    heir = λ i h. rw (into₁ i) (f.heir-below i h);
    lives = λ i h. rw (heir₁ i h) (f.heir-lives i h);
    slot = λ i h. rw (heir₁ i h) (heir-few i h);
  }

  module _ {w₂ : List ℕ} (m : Homed p groups w₁ w₂) where
    low₂ : (i : ℕ) → i < p.homes → get_or w₂ i 0 ≡ get_or w i 0
    low₂ i h = m.only.kept i (record { apart = λ x. absurd (omega arith) }, tt) ∙ low₁ i (omega (arith, lies))

    line₂ : (q : ℕ) → q < count → get_or w₂ (p.living + q) 0 ≡ get_or (living_line p k w) q 0
    line₂ q h = m.only.kept (p.living + q) (record { apart = λ x. omega (arith, lies, few) }, tt) ∙ l.at q h

    -- the home of each slot
    home₂ : ℕ → ℕ
    home₂ s = get_or w₂ (p.homes + s) 0

    home_at : (i q : ℕ) → i < groups → q < count → get_or (living_line p k w) q 0 ≡ heir_slot p w i → home₂ (get_or w (p.order + i) 0) ≡ q
    unfolding home₂
    home_at i q h g e =
        let a = subst (λ (z : ℕ). get_or w₂ (p.homes + z) 0 ≡ get_or w₁ (p.spots + (get_or w₁ (p.place + get_or w₁ (p.into + i) 0) 0 - 1)) 0) (order₁ i h) (m.at i h) in
        a ∙ ap (λ (z : ℕ). get_or w₁ (p.spots + (z - 1)) 0) (heir₁ i h) ∙ ap (λ (z : ℕ). get_or w₁ (p.spots + z) 0) (sym e) ∙ l.spot q g

    home_below : (s : ℕ) → s < groups → home₂ s < count
    home_below s h =
        let o = onto (λ i. get_or w (p.order + i) 0) groups f.from-below f.from-apart s h in
        let a = f.heir-at o.0 o.1 in
        let c : a.0 < count = omega (arith, l.count-is, a.1) in
        let e = home_at o.0 a.0 o.1 c a.2 in
        subst (λ (z : ℕ). home₂ z < count) o.2 (rw e c)

    pub shared-fit : SharedFit p groups count w₂
    unfolding home₂
    shared-fit = record {
      laid = rw (m.only.long, l.only.long) lies;
      few = few;
      count-few = count-few;
      slot = λ q h. rw (line₂ q h) (f.line.below q (omega (arith, l.count-is)));
      number = λ q h. rw (low₂ (p.line + q) (omega (arith, lies))) (f.number q h);
      kind = λ x h. rw (low₂ (p.kinds + x) (omega (arith, lies))) (f.kind x h);
      home = home_below;
    }

    pub arranged : {w₃ : List ℕ} → SharedOut p count w₂ w₃ → Arranged p groups k w w₃ count
    unfolding home₂
    arranged {w₃} d =
        let c = count-few in
        record {
          only = only-trans {rs = arranged_in p} (only-weaken (λ i o. (o.1.0, (apart-part o.1.1.0 (omega (arith, lies)) (omega (arith, lies)), tt))) l.only)
              (only-trans {rs = arranged_in p} (only-weaken (λ i o. (apart-part o.0 (omega arith) (omega (arith, few)), tt)) m.only)
              (only-weaken (λ i o. (apart-part o.1.1.0 (omega arith) (omega (arith, few)), (o.1.1.1.0, tt))) d.only));
          count-is = l.count-is;
          home = home₂;
          home-is = home_at;
          homes-are = λ s h. d.only.kept (p.homes + s) (record { apart = λ x. absurd (omega (arith, lies, few)) }, (record { apart = λ x. absurd (omega (arith, lies, few)) }, tt));
          shape = λ q h. d.shape q h ∙ ap (λ (z : ℕ). p.slots + z * p.regions) (line₂ q h);
          rows_in = d.rows_in;
          rows_few = d.rows_few;
          rows = λ q h. d.rows q h
              ∙ ap (keep (goes p w₂ q)) seg_same
              ∙ keep_same (goes p w₂ q) (λ x. eqb (get_or w (p.first + x) 0) x && eqb (home₂ (get_or w (p.kinds + x) 0)) q) (seg p.line p.sets w)
              (all-seg _ p.sets p.line w (omega (arith, lies)) (λ j a b. rw (low₂ (p.first + get_or w j 0) (omega (arith, lies, number_at j a b)), low₂ (p.kinds + get_or w j 0) (omega (arith, lies, number_at j a b))) refl));
        }
      where
        seg_same : seg p.line p.sets w₂ ≡ seg p.line p.sets w
        seg_same = seg-ext p.line p.line p.sets w₂ w (omega (arith, lies, l.only.long, m.only.long)) (omega (arith, lies)) (λ i h. low₂ (p.line + i) (omega (arith, lies)))

        number_at : (j : ℕ) → p.line ≤ j → j < p.line + p.sets → get_or w j 0 < p.sets
        number_at j a b =
            let e : p.line + (j - p.line) ≡ j = omega arith in
            subst (λ (z : ℕ). get_or w z 0 < p.sets) e (f.number (j - p.line) (omega arith))
