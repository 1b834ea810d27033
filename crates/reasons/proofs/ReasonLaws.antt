-- The reason, from where two ids have their rows. Assumes nothing.
use mathlib.Core.Path.{◌≡◌, refl, sym, ap, ◌∙◌}
use mathlib.Core.List.{List}
use Prim.Native.Nat.{ℕ, ◌+◌, ◌/◌, ◌<◌}
use native.Mathlib.Omega.{arith}
use lib.ListN.{get_or}
use borrow.Author.Tests.{eq-eqb, ne_eqb}
use Rattle.laws.specs.LentRange.{seg}
use Rattle.shapes.specs.Shape.{Shape, join}
use Rattle.shapes.specs.Group.{Group, group_cost, joined, max_items}
use Rattle.shapes.proofs.ShapeLaws.{join-self}
use Rattle.store.specs.Placing.{Final}
use Rattle.store.specs.Lent.{finals_at}
use Rattle.encoder.specs.Packed.{Packed}
use Rattle.encoder.specs.Lent.{PackedAt, relabel}
use Rattle.encoder.specs.declared.places.Places.{Places}
use Rattle.encoder.specs.declared.encoded.Encoded.{Encoded}
use Rattle.finding.specs.First.{first_at}
use Rattle.reasons.specs.declared.reason.Reason.{Reason}
use Rattle.reasons.specs.declared.reason.Reason.TheVariants.{Same, NeverJoined}
use Rattle.reasons.specs.Why.{home_in, final_no, counted, reason_in_group, apart_of, why_of}
use Rattle.reasons.specs.LentReasons.{shape_spot, row_count, ids_in, finals_in, GroupsIn, CostsIn, ReasonFit}
use Rattle.reasons.proofs.RowLaws.{ids-long}
use Rattle.reasons.proofs.HomeLaws.{final-in}

-- ---- one group

module _ (ids : List ℕ) (first second x y : ℕ) (e : x ≡ first_at first ids) (f : y ≡ first_at second ids) where
  pub run-same : x / max_items ≡ y / max_items → Same ≡ reason_in_group ids first second
  unfolding reason_in_group
  run-same h = rw (← e, ← f, eq-eqb (x / max_items) (y / max_items) h) refl

-- ---- two groups

joined_is : (s t : Shape) (m n : ℕ) → group_cost (joined (record { shape = s; sets = m }) (record { shape = t; sets = n })) ≡ group_cost (record { shape = join s t; sets = m + n })
unfolding joined
joined_is s t m n = refl

apart_from : (g h : Final) (x y : Group) → counted g ≡ x → counted h ≡ y → NeverJoined (group_cost x) (group_cost y) (group_cost (joined x y)) ≡ apart_of g h
unfolding apart_of
apart_from g h x y d e = rw (← d, ← e) refl

module _ (p : Places) (count a b : ℕ) (w : List ℕ) (f : CostsIn p count a b w) where
  counted-in : (g m : ℕ) → g < count → m ≡ row_count p w g → counted (final_no (finals_in p count w) g) ≡ record { shape = seg (shape_spot p w g) p.regions w; sets = m }
  counted-in g m k e = ap counted (final-in p count w g k) ∙ ap (λ (n : ℕ). record { shape = seg (shape_spot p w g) p.regions w; sets = n }) (ids-long p g w (f.groups.each g k) ∙ sym e)

  module _ (s t m n : ℕ) (d : s ≡ shape_spot p w a) (e : t ≡ shape_spot p w b) (i : m ≡ row_count p w a) (j : n ≡ row_count p w b) where
    pub apart-is : (one other both : ℕ)
        → one ≡ group_cost (record { shape = join (seg s p.regions w) (seg s p.regions w); sets = m })
        → other ≡ group_cost (record { shape = join (seg t p.regions w) (seg t p.regions w); sets = n })
        → both ≡ group_cost (record { shape = join (seg s p.regions w) (seg t p.regions w); sets = m + n })
        → NeverJoined one other both ≡ apart_of (final_no (finals_in p count w) a) (final_no (finals_in p count w) b)
    apart-is one other both x y z =
        ap (λ (o : ℕ). NeverJoined o other both) (x ∙ ap (λ (v : Shape). group_cost (record { shape = v; sets = m })) (join-self (seg s p.regions w)))
        ∙ ap (λ (o : ℕ). NeverJoined (group_cost (record { shape = seg s p.regions w; sets = m })) o both) (y ∙ ap (λ (v : Shape). group_cost (record { shape = v; sets = n })) (join-self (seg t p.regions w)))
        ∙ ap (NeverJoined (group_cost (record { shape = seg s p.regions w; sets = m })) (group_cost (record { shape = seg t p.regions w; sets = n }))) (z ∙ sym (joined_is (seg s p.regions w) (seg t p.regions w) m n))
        ∙ apart_from (final_no (finals_in p count w) a) (final_no (finals_in p count w) b) (record { shape = seg s p.regions w; sets = m }) (record { shape = seg t p.regions w; sets = n })
        (counted-in a m f.first-there i ∙ ap (λ (v : ℕ). record { shape = seg v p.regions w; sets = m }) (sym d))
        (counted-in b n f.second-there j ∙ ap (λ (v : ℕ). record { shape = seg v p.regions w; sets = n }) (sym e))

-- ---- what is packed in work

module _ (p : Places) (e : Encoded) (w : List ℕ) where
  pub finals-same : (k : Packed) → PackedAt k p e w → finals_in p e.count w ≡ k.finals
  unfolding finals_in
  finals-same k q =
      ap (λ (l : List ℕ). relabel (λ x. get_or l x 0) (finals_at p.regions p.finals e.count w)) q.ids-are ∙ q.finals-are

  module _ (first second : ℕ) (fit : ReasonFit p e first second w) where
    pub groups-in : GroupsIn p e.count w
    groups-in =
        let q = fit.packed in
        record {
          groups-to = omega (arith, q.finals-to, q.rows-to);
          each = λ g h.
              let i = q.finals-in g h in
              record {
                group-to = omega (arith, q.finals-to, q.rows-to);
                ids-to = omega (arith, q.ids-to, q.finals-to, q.rows-to);
                rows-to = omega (arith, i.rows-to, q.rows-to);
                numbers = i.numbers;
              };
        }

    module _ (a b : ℕ) (i : a ≡ home_in first (finals_in p e.count w)) (j : b ≡ home_in second (finals_in p e.count w)) where
      pub first_below : a < e.count
      first_below = omega (arith, i, ap (home_in first) (finals-same fit.packed-as fit.packed), fit.first-there)

      pub second_below : b < e.count
      second_below = omega (arith, j, ap (home_in second) (finals-same fit.packed-as fit.packed), fit.second-there)

      pub costs-in : CostsIn p e.count a b w
      costs-in =
          let q = fit.packed in
          record {
            groups = groups-in;
            first-there = first_below;
            second-there = second_below;
            shapes-to = λ g h. omega (arith, (q.finals-in g h).shape-to, q.rows-to);
            narrow = fit.narrow;
            few = λ g h. omega (arith, (q.finals-in g h).rows-to, (q.finals-in g h).rows-from, q.sets-few);
          }

      module _ (k : Packed) (q : PackedAt k p e w) (r : Reason) where
        pub why-same : a ≡ b → r ≡ reason_in_group (ids_in p w a) first second → r ≡ why_of k.finals first second
        unfolding why_of
        why-same h x =
            rw (← finals-same k q, ← i, ← j, eq-eqb a b h)
            (x ∙ ap (λ (f : Final). reason_in_group f.ids first second) (sym (final-in p e.count w a first_below)))

        pub why-apart : (a ≡ b → ⊥) → r ≡ apart_of (final_no (finals_in p e.count w) a) (final_no (finals_in p e.count w) b) → r ≡ why_of k.finals first second
        unfolding why_of
        why-apart h x = rw (← finals-same k q, ← i, ← j, ne_eqb a b h) x
