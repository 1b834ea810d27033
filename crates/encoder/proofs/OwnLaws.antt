-- Mode 1's one group: what each call of `own` asks for, and what stands in work at the end. Assumes nothing.
use mathlib.Core.Path.{◌≡◌, refl, sym, ap, ap₂, ◌∙◌, subst}
use mathlib.Core.List.{List, [], ◌∷◌, map}
use mathlib.Core.Logic.{⊎_elim}
use Prim.Native.Nat.{ℕ, ◌+◌, ◌-◌, ◌*◌, ◌≤◌, ◌<◌}
use native.Mathlib.Omega.{arith}
use lib.ListN.{length, get_or, take, drop, replicate, length-replicate, get_or-replicate, get_or-eq_default}
use borrow.Author.Tests.{ne_eqb}
use borrow.Rule.Slice.PartMut.{put_mid}
use Rattle.laws.proofs.RangeLaws.{get_or-seg}
use lib.ListN.{length-drop}
use lib.Seq.{length-take-le}
use Rattle.laws.proofs.PartLaws.{only-mid, seg-mid}
use Rattle.laws.specs.Bag.{sum}
use Rattle.laws.specs.Every.{All}
use Rattle.laws.specs.Bounded.{tabulate, up_to}
use Rattle.laws.specs.LentRange.{Only, seg}
use Rattle.laws.proofs.Cases.{lt-or-ge}
use Rattle.laws.proofs.ListLaws.{map-self}
use Rattle.laws.proofs.EveryLaws.{all-imp}
use Rattle.laws.proofs.Products.{row_fits}
use Rattle.laws.proofs.RangeLaws.{only-trans, only-weaken, only-widen, only-seg, seg-none, seg-ext}
use Rattle.laws.proofs.UpLaws.{up_at, up-all}
use Rattle.shapes.specs.Shape.{Shape, join}
use Rattle.shapes.proofs.ShapeLaws.{join-length}
use Rattle.shapes.specs.Group.{group_cost}
use Rattle.shapes.specs.Lent.{Narrow, Measured, cost_of}
use Rattle.shapes.proofs.GroupLaws.{cost-measured}
use Rattle.shapes.proofs.LentLaws.{narrow-join}
use Rattle.sets.specs.Set.{Set}
use Rattle.sets.specs.Lent.{sets_in, CountedUp}
use Rattle.sets.proofs.HeldLaws.{Kept, kept-only, kept_trans, held_kept, set_same, sets_same, sets-length, sets-at}
use Rattle.groups.specs.Groups.{shape_of}
use Rattle.groups.specs.Cover.{cover_from, cover_of}
use Rattle.shaping.specs.Lent.{CoverFit, CoverAt}
use Rattle.groups.proofs.GroupLaws.{shape-length}
use Rattle.grouping.proofs.GroupSteps.{shape-narrow}
use Rattle.rule.specs.Told.{words}
use Rattle.store.specs.Lent.{final_at, finals_at}
use Rattle.store.proofs.GroupLaws.{part-seg}
use Rattle.encoder.specs.declared.places.Places.{Places}
use Rattle.encoder.specs.Packed.{own, one_cost}
use Rattle.encoder.specs.LentPlaces.{Laid}
use Rattle.encoder.specs.Lent.{group_at, Fit, relabel, origins_in, FinalIn, OwnAt}
use Rattle.encoder.specs.LentOwn.{WordsFit, WordsAt, group_cost_of}
use Rattle.encoder.proofs.PlacesLaws.{room-one}

-- ---- the three words of a group

module _ (group shape rows n : ℕ) (w s : List ℕ) (room : group + 3 ≤ length w) (is : s ≡ shape ∷ rows ∷ n ∷ []) where
  fits : length s ≡ group + 3 - group
  fits = let z : 3 ≡ group + 3 - group = omega arith in ap length is ∙ z

  word : (k : ℕ) → k < 3 → get_or (put_mid group (group + 3 - group) w s) (group + k) 0 ≡ get_or (shape ∷ rows ∷ n ∷ []) k 0
  word k h = sym (get_or-seg group 3 (put_mid group (group + 3 - group) w s) k h) ∙ ap (λ (x : List ℕ). get_or x k 0) (seg-mid group 3 w s room fits ∙ is)

  pub words-put : WordsAt group shape rows n w (put_mid group (group + 3 - group) w s)
  words-put =
      let z : group + 0 ≡ group = omega arith in
      record {
        only = only-mid group 3 w s room fits;
        shape_is = rw z at (word 0 (omega arith));
        rows_is = word 1 (omega arith);
        n-is = word 2 (omega arith);
      }

-- ---- the cost of a shape in lent words

pub cost-done : (s : List ℕ) (n row cols : ℕ) → Measured s row cols → cost_of row cols n ≡ group_cost_of s n
unfolding group_cost_of
cost-done s n row cols m = sym (cost-measured s row cols n m)

-- ---- one group of sets

-- joins of narrow shapes are narrow
cover-narrow : (regions : ℕ) (s : Shape) (l : List Set) → regions ≤ 65536 → length s ≡ regions → Narrow s → Narrow (cover_from regions s l)
unfolding cover_from
cover-narrow regions s [] h e n = n
cover-narrow regions s (x ∷ l) h e n =
    let j = narrow-join s (shape_of regions x) n (shape-narrow regions x h) (e ∙ sym (shape-length regions x)) in
    cover-narrow regions (join s (shape_of regions x)) l h (join-length regions s (shape_of regions x) e (shape-length regions x)) j

zeros-narrow : (regions : ℕ) → regions ≤ 65536 → Narrow (replicate regions 0)
zeros-narrow regions h =
    let l : length {A = ℕ} (replicate regions 0) ≡ regions = length-replicate regions 0 in
    record {
      few = omega (arith, l);
      narrow = λ k. ⊎_elim
          (λ (p : k < regions). omega (arith, get_or-replicate {A = ℕ} regions k 0 0 p))
          (λ (p : regions ≤ k). omega (arith, get_or-eq_default {A = ℕ} (replicate regions 0) 0 {n = k} (omega (arith, l))))
          (lt-or-ge k regions);
    }

one-narrow : (regions : ℕ) (l : List Set) → regions ≤ 65536 → Narrow (cover_of regions l)
one-narrow regions l h = cover-narrow regions (replicate regions 0) l h (length-replicate regions 0) (zeros-narrow regions h)

one-cost : (regions : ℕ) (l : List Set) (n : ℕ) → length l ≡ n → 0 < n → group_cost (record { shape = cover_of regions l; sets = n }) ≡ one_cost regions l
unfolding one_cost
one-cost regions l n e h = rw (ne_eqb (length l) 0 (λ z. omega arith), e)

up-map : (n : ℕ) → map (λ x. get_or (up_to n) x 0) (up_to n) ≡ up_to n
up-map n = map-self (λ x. get_or (up_to n) x 0) (up_to n) (all-imp (λ x h. up_at n x h) (up_to n) (up-all n))

-- a group's three words say its shape and its rows
final-is : (regions at shape rows n : ℕ) (w : List ℕ) → get_or w at 0 ≡ shape → get_or w (at + 1) 0 ≡ rows → get_or w (at + 2) 0 ≡ n
    → final_at regions w at ≡ record { shape = seg shape regions w; ids = seg rows n w }
unfolding final_at
final-is regions at shape rows n w a b c = rw (a, b, c)

finals-one : (f : ℕ → ℕ) (regions at : ℕ) (w : List ℕ)
    → relabel f (finals_at regions at 1 w) ≡ record { shape = (final_at regions w at).shape; ids = map f (final_at regions w at).ids } ∷ []
unfolding relabel finals_at tabulate
finals-one f regions at w = let e : at + 3 * 0 ≡ at = omega arith in rw e

-- ---- the run of `own`

module _ {p : Places} {w : List ℕ} (f : Fit p w) (some : 0 < p.sets) where
  laid : Laid p (length w)
  laid = f.laid

  -- the order of the tables that are written
  record Order : Type 0 where
    line-ids : p.line ≤ p.ids
    ids-slots : p.ids + p.sets ≤ p.slots
    slots-group : p.slots + p.regions + p.regions ≤ p.finals
    log-rows : p.log ≤ p.rows
    group-rows : p.finals + 3 ≤ p.rows

  order : Order
  order =
      let l = laid in
      let one = room-one p.sets p.regions some in
      let two = row_fits p.regions (p.room + 1) 1 (omega (arith, l.room-is)) in
      record {
        line-ids = omega (arith, l.line-to, l.first_to);
        ids-slots = omega (arith, l.ids-to, l.kinds-to);
        slots-group = omega (arith, two, l.slots-to, l.order-to, l.counts-to, l.place-to, l.costs-to, l.finals-is);
        log-rows = omega (arith, l.log-to);
        group-rows = omega (arith, l.room-is, l.columns-to, l.into-to, l.log-to, l.finals-is);
      }

  pub ids-fit : (p.ids + p.sets ≤ length w) × (p.sets ≤ 4294967296)
  ids-fit = let o = order in (omega (arith, o.ids-slots, o.slots-group, o.group-rows, laid.rows-to), omega (arith, laid.sets-few))

  pub slots-few : p.slots + p.regions < 4294967296
  slots-few = let o = order in omega (arith, o.slots-group, o.group-rows, laid.few)

  module _ {u : List ℕ} (a : CountedUp p.ids p.sets w u) where
    pub rows_fit : (p.rows + p.sets ≤ length u) × (p.sets ≤ 4294967296)
    rows_fit = (omega (arith, laid.rows-to, a.only.long), omega (arith, laid.sets-few))

    module _ {v : List ℕ} (b : CountedUp p.rows p.sets u v) where
      line-rows : Kept p.line w v
      line-rows =
          let o = order in
          kept_trans (kept-only a.only (o.line-ids, tt)) (kept-only b.only (omega (arith, o.line-ids, o.ids-slots, o.slots-group, o.group-rows), tt))

      pub cover-fit : CoverFit 0 p.sets p.slots (p.slots + p.regions) p.regions v
      cover-fit =
          let o = order in
          record {
            end = p.line;
            held = held_kept f.held line-rows;
            behind = omega (arith, o.line-ids, o.ids-slots);
            at-to = omega arith;
            room = omega (arith, o.slots-group, o.group-rows, laid.rows-to, line-rows.long);
          }

      module _ {x : List ℕ} (c : CoverAt 0 p.sets p.slots (p.slots + p.regions) p.regions v x) where
        pub words-room : p.finals + 3 ≤ length x
        words-room = let o = order in omega (arith, o.group-rows, laid.rows-to, line-rows.long, c.only.long)

        pub words-at : {s : List ℕ} → s ≡ p.slots ∷ p.rows ∷ p.sets ∷ [] → WordsAt p.finals p.slots p.rows p.sets x (put_mid p.finals (p.finals + 3 - p.finals) x s)
        words-at {s} e = words-put p.finals p.slots p.rows p.sets x s words-room e

        pub words-long : length (take (p.finals + 3 - p.finals) (drop p.finals x)) ≡ 3
        words-long = length-take-le (p.finals + 3 - p.finals) (drop p.finals x) (omega (arith, length-drop p.finals x, words-room)) ∙ omega arith

        pub words-fit : WordsFit p.slots p.rows p.sets
        words-fit =
            let o = order in
            record {
              shape-few = omega (arith, o.slots-group, o.group-rows, laid.few);
              rows_few = omega (arith, laid.few);
              n-few = omega (arith, laid.few);
            }

        module _ {y : List ℕ} (g : WordsAt p.finals p.slots p.rows p.sets x y) where
          long : length y ≡ length w
          long = g.only.long ∙ c.only.long ∙ line-rows.long

          abbrev all : List Set
          all = sets_in 0 p.sets w

          all-long : length all ≡ p.sets
          all-long = sets-length 0 p.sets w

          line_kept : Kept p.line w y
          line_kept =
              let o = order in
              kept_trans line-rows
              (kept_trans
              (kept-only c.only (omega (arith, o.line-ids, o.ids-slots), (omega (arith, o.line-ids, o.ids-slots), tt)))
              (kept-only g.only (omega (arith, o.line-ids, o.ids-slots, o.slots-group), tt)))

          ids-are : seg p.ids p.sets y ≡ up_to p.sets
          ids-are =
              let o = order in
              let k : Kept p.slots u y =
              kept_trans (kept-only b.only (omega (arith, o.slots-group, o.group-rows), tt))
              (kept_trans
              (kept-only c.only (omega arith, (omega arith, tt)))
              (kept-only g.only (omega (arith, o.slots-group), tt))) in
              seg-ext p.ids p.ids p.sets y u (omega (arith, ids-fit.0, long)) (omega (arith, ids-fit.0, a.only.long))
              (λ i h. k.below (p.ids + i) (omega (arith, o.ids-slots)))
              ∙ a.is

          rows_are : seg p.rows p.sets y ≡ up_to p.sets
          rows_are =
              let o = order in
              only-seg g.only p.rows p.sets (omega (arith, laid.rows-to, g.only.long, long))
              (λ k h i. (record { apart = λ q. omega (arith, o.group-rows) }, tt))
              ∙ only-seg c.only p.rows p.sets (omega (arith, laid.rows-to, line-rows.long))
              (λ k h i. (record { apart = λ q. omega (arith, o.slots-group, o.group-rows) }, (record { apart = λ q. omega (arith, o.slots-group, o.group-rows) }, tt)))
              ∙ b.is

          shape_is : seg p.slots p.regions y ≡ cover_of p.regions all
          shape_is =
              let o = order in
              only-seg g.only p.slots p.regions (omega (arith, o.slots-group, o.group-rows, laid.rows-to, g.only.long, long))
              (λ k h i. (record { apart = λ q. absurd (omega (arith, o.slots-group)) }, tt))
              ∙ c.is
              ∙ ap (cover_of p.regions) (sets_same f.held line-rows)

          narrow-shape : Narrow (seg p.slots p.regions y)
          narrow-shape = rw shape_is (one-narrow p.regions all (omega (arith, laid.regions-few)))

          pub cost-room : p.slots + p.regions ≤ length y
          cost-room = let o = order in omega (arith, o.slots-group, o.group-rows, laid.rows-to, long)

          pub cost-narrow : Narrow (take (p.slots + p.regions - p.slots) (drop p.slots y))
          cost-narrow = rw (part-seg p.slots p.regions y) narrow-shape

          pub cost-few : p.sets < 4294967296
          cost-few = omega (arith, laid.few)

          cost-is : group_cost_of (seg p.slots p.regions y) p.sets ≡ one_cost p.regions all
          unfolding group_cost_of
          cost-is = rw shape_is (one-cost p.regions all p.sets all-long some)

          only-behind : Only ((p.line, length w) ∷ []) w y
          only-behind =
              let o = order in
              let r = laid.rows-to in
              only-trans (only-widen p.line (length w) o.line-ids (omega (arith, ids-fit.0)) a.only)
              (only-trans (only-widen p.line (length w) (omega (arith, o.line-ids, o.ids-slots, o.slots-group, o.group-rows)) (omega (arith, r)) b.only)
              (only-trans
              (only-weaken
              (λ k h. (
                record { apart = λ q. omega (arith, o.line-ids, o.ids-slots, o.slots-group, o.group-rows, r, h.0.apart (omega (arith, o.line-ids, o.ids-slots))) },
                (record { apart = λ q. omega (arith, o.line-ids, o.ids-slots, o.slots-group, o.group-rows, r, h.0.apart (omega (arith, o.line-ids, o.ids-slots))) }, tt),
              ))
              c.only)
              (only-widen p.line (length w) (omega (arith, o.line-ids, o.ids-slots, o.slots-group)) (omega (arith, o.group-rows, r)) g.only)))

          final-here : final_at p.regions y p.finals ≡ record { shape = cover_of p.regions all; ids = up_to p.sets }
          final-here =
              final-is p.regions p.finals p.slots p.rows p.sets y g.shape_is g.rows_is g.n-is
              ∙ (λ i. record { shape = shape_is i; ids = rows_are i })

          final-first : FinalIn p y 0
          final-first =
              let o = order in
              let e : p.finals + 3 * 0 ≡ p.finals = omega arith in
              let s : get_or y (p.finals + 3 * 0) 0 ≡ p.slots = ap (λ (k : ℕ). get_or y k 0) e ∙ g.shape_is in
              let r : get_or y (p.finals + 3 * 0 + 1) 0 ≡ p.rows = ap (λ (k : ℕ). get_or y (k + 1) 0) e ∙ g.rows_is in
              let n : get_or y (p.finals + 3 * 0 + 2) 0 ≡ p.sets = ap (λ (k : ℕ). get_or y (k + 2) 0) e ∙ g.n-is in
              record {
                shape-to = omega (arith, s, o.slots-group, o.group-rows);
                rows-from = omega (arith, r);
                rows-to = omega (arith, r, n);
                numbers = subst (All (λ x. x < p.sets)) (sym (ap₂ (λ (k m : ℕ). seg k m y) r n ∙ rows_are)) (up-all p.sets);
              }

          final-in : (k : ℕ) → k < 1 → FinalIn p y k
          final-in k h = let e : 0 ≡ k = omega arith in subst (λ k. FinalIn p y k) e final-first

          rows-one : sum (λ k. get_or y (group_at p k + 2) 0) 1 ≤ p.sets
          unfolding sum
          rows-one =
              let e : p.finals + 3 * 0 ≡ p.finals = omega arith in
              let n : get_or y (p.finals + 3 * 0 + 2) 0 ≡ p.sets = ap (λ (k : ℕ). get_or y (k + 2) 0) e ∙ g.n-is in
              omega (arith, n)

          pub own-done : (cost : ℕ) → cost ≡ group_cost_of (take (p.slots + p.regions - p.slots) (drop p.slots y)) p.sets
              → OwnAt p w y (record { distinct = p.sets; count = 1; groups = 0; merges = 0; weighed = 0; before = cost; after = cost })
          unfolding own words relabel origins_in tabulate
          own-done cost e =
              let o = order in
              let q : cost ≡ group_cost_of (seg p.slots p.regions y) p.sets = e ∙ ap (λ (z : List ℕ). group_cost_of z p.sets) (part-seg p.slots p.regions y) in
              record {
                only = only-behind;
                result = record {
                  held = held_kept f.held line_kept;
                  sets-few = laid.sets-few;
                  regions-few = laid.regions-few;
                  line-to = o.line-ids;
                  ids-to = omega (arith, o.ids-slots, o.slots-group);
                  finals-few = omega arith;
                  finals-to = omega (arith, o.group-rows);
                  rows-to = omega (arith, laid.rows-to, long);
                  log-to = omega (arith, o.log-rows);
                  order-to = omega (arith, laid);
                  homes-to = λ i h. absurd (omega arith);
                  ids-are = rw all-long ids-are;
                  sets-are = λ k h. rw (all-long, up_at p.sets k h) (sets-at 0 p.sets w k h ∙ sym (set_same f.held line_kept k h));
                  distinct-is = sym all-long;
                  distinct-few = omega arith;
                  finals-in = final-in;
                  rows_few = rows-one;
                  finals-are =
                      finals-one (λ k. get_or (up_to (length all)) k 0) p.regions p.finals y
                      ∙ rw (final-here, all-long, up-map p.sets);
                  groups-is = refl;
                  groups-few = omega arith;
                  origins-are = refl;
                  merges-is = refl;
                  log-are = seg-none p.log y;
                  weighed-is = refl;
                  before-is = q ∙ cost-is;
                  after_is = q ∙ cost-is;
                };
              }
