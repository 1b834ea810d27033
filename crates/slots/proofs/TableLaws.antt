-- Laws of the tables of a merge. Assumes nothing.
use mathlib.Core.Path.{◌≡◌, sym, ap, ◌∙◌}
use mathlib.Core.Bool.{true}
use mathlib.Core.List.{List}
use Prim.Native.Nat.{ℕ, ◌+◌, ◌-◌, ◌*◌, ◌≤◌, ◌<◌}
use native.Mathlib.Omega.{arith}
use lib.ListN.{length}
use Rattle.laws.proofs.RangeLaws.{length-seg}
use Rattle.laws.proofs.Products.{row_fits}
use Rattle.shapes.specs.Shape.{join}
use Rattle.shapes.specs.Group.{Group, gain}
use Rattle.shapes.specs.Lent.{Measured, Small, cost_of, is_too_far}
use Rattle.shapes.proofs.ShapeLaws.{overhead-most}
use Rattle.shapes.proofs.GroupLaws.{gain-measured, gain-most, far_none}
use Rattle.shapes.proofs.LentLaws.{narrow-small, narrow-join}
use Rattle.slots.specs.declared.tables.MergeTables.{MergeTables}
use Rattle.planes.specs.Plane.{plane_length, plane_words}
use Rattle.planes.specs.Lent.{MeasuresJoin}
use Rattle.planes.proofs.FillLaws.{words-three, long-few}
use Rattle.slots.specs.Lent.{Laid, shape_in, group_in, plane_at, Shaped, Sound, CostsAs}

-- ---- slots

pub slot-end : (t : MergeTables) (n s : ℕ) → Laid t n → s < t.groups → t.slots + s * t.regions + t.regions ≤ t.order
slot-end t n s h l = omega (arith, h.slots_end, row_fits t.regions t.groups s l)

pub slot-room : (t : MergeTables) (n s : ℕ) → Laid t n → s < t.groups → t.slots + s * t.regions + t.regions ≤ n
slot-room t n s h l = omega (arith, slot-end t n s h l, h)

pub shape-length : (t : MergeTables) (w : List ℕ) (s : ℕ) → Laid t (length w) → s < t.groups → length (shape_in t w s) ≡ t.regions
unfolding shape_in
shape-length t w s h l = length-seg (t.slots + s * t.regions) t.regions w (slot-room t (length w) s h l)

-- ---- the planes of a slot

pub plane-row : (s r n : ℕ) → n ≡ plane_length r → s * (3 * n) ≡ s * plane_words r
plane-row s r n e = ap (λ (m : ℕ). s * (3 * m)) e ∙ ap (λ (m : ℕ). s * m) (sym (words-three r))

pub plane-end : (t : MergeTables) (n s : ℕ) → Laid t n → s < t.groups → plane_at t s + plane_words t.regions ≤ t.planes + t.groups * plane_words t.regions
plane-end t n s h l = omega (arith, row_fits (plane_words t.regions) t.groups s l)

-- all other tables lie before them
pub plane-past : (t : MergeTables) (n s : ℕ) → Laid t n → t.log + 3 * (t.groups - 1) ≤ plane_at t s
plane-past t n s h = omega (arith, h.log-end)

pub plane-room : (t : MergeTables) (n s x words : ℕ) → Laid t n → s < t.groups → x ≡ plane_at t s → words ≡ plane_length t.regions → x + 3 * words ≤ n
plane-room t n s x words h l e f = omega (arith, plane-end t n s h l, h.planes-end, words-three t.regions)

pub plane-few : (t : MergeTables) (n words : ℕ) → Laid t n → words ≡ plane_length t.regions → words ≤ 1048576
plane-few t n words h e = omega (arith, long-few t.regions h.regions-few)

-- ---- weighing two slots, by their numbers

pub costs-measured : (t : MergeTables) (w : List ℕ) (s row cols sets : ℕ) → Sound t w → s < t.groups → CostsAs t w s row cols sets → Measured (shape_in t w s) row cols
costs-measured t w s row cols sets h l c = record {
  row_is = c.row_is ∙ (h.measured s l).row_is;
  columns-is = c.columns-is ∙ (h.measured s l).columns-is;
}

pub costs-small : (t : MergeTables) (w : List ℕ) (s row cols sets : ℕ) → Sound t w → s < t.groups → CostsAs t w s row cols sets → Small row cols
costs-small t w s row cols sets h l c = narrow-small (shape_in t w s) row cols (h.shaped.narrow s l) (costs-measured t w s row cols sets h l c)

module _ (t : MergeTables) (w : List ℕ) (a b x y words rj cj : ℕ) (h : Sound t w) (la : a < t.groups) (lb : b < t.groups)
    (ex : x ≡ plane_at t a) (ey : y ≡ plane_at t b) (el : words ≡ plane_length t.regions) (j : MeasuresJoin w x y words rj cj) where
  at_slots : MeasuresJoin w (plane_at t a) (plane_at t b) (plane_length t.regions) rj cj
  at_slots = rw (ex, ey, el) at j

  joined-measured : Measured (join (shape_in t w a) (shape_in t w b)) rj cj
  joined-measured = at_slots.is (shape_in t w a) (shape_in t w b) (h.planed a la) (h.planed b lb)

  pub joined_small : Small rj cj
  joined_small =
      narrow-small (join (shape_in t w a) (shape_in t w b)) rj cj
      (narrow-join (shape_in t w a) (shape_in t w b) (h.shaped.narrow a la) (h.shaped.narrow b lb)
      (shape-length t w a h.shaped.laid la ∙ sym (shape-length t w b h.shaped.laid lb)))
      joined-measured

  pub weigh-is : (r ra ca na rb cb nb : ℕ) → CostsAs t w a ra ca na → CostsAs t w b rb cb nb
      → r ≡ cost_of ra ca na + cost_of rb cb nb - cost_of rj cj (na + nb) → r ≡ gain (group_in t w a) (group_in t w b)
  unfolding group_in
  weigh-is r ra ca na rb cb nb p q e =
      e
      ∙ sym (gain-measured (shape_in t w a) (shape_in t w b) na nb ra ca rb cb rj cj (costs-measured t w a ra ca na h la p) (costs-measured t w b rb cb nb h lb q) joined-measured)
      ∙ rw (p.sets-is, q.sets-is)

-- row costs that differ much
pub far-is : (t : MergeTables) (w : List ℕ) (a b ra ca na rb cb nb : ℕ) → Sound t w → a < t.groups → b < t.groups → CostsAs t w a ra ca na → CostsAs t w b rb cb nb
    → is_too_far ra ca na rb cb nb ≡ true → 0 ≡ gain (group_in t w a) (group_in t w b)
unfolding group_in
far-is t w a b ra ca na rb cb nb h la lb p q e =
    sym (far_none (shape_in t w a) (shape_in t w b) na nb ra ca rb cb (costs-measured t w a ra ca na h la p) (costs-measured t w b rb cb nb h lb q) e) ∙ rw (p.sets-is, q.sets-is)

-- a gain fits a word
pub gain-few : (t : MergeTables) (w : List ℕ) (a r : ℕ) (g : Group) → Shaped t w → a < t.groups → r ≡ gain (group_in t w a) g → r ≤ 131082
unfolding group_in
gain-few t w a r g h l e =
    omega (arith, gain-most (group_in t w a) g, overhead-most (shape_in t w a), shape-length t w a h.laid l, h.laid.regions-few)
