-- What one record leads to: stopped by its form, a value, an end; the first that is no axis record. Assumes nothing.
use mathlib.Core.Path.{◌≡◌, refl, sym, ◌∙◌}
use mathlib.Core.Bool.{true, false}
use mathlib.Core.List.{List}
use Prim.Native.Nat.{ℕ, zero, suc, ◌*◌, ◌/◌, ◌%◌}
use native.Mathlib.Nat.{mod-eq-sub-div-mul, div-mul-le_self}
use native.Mathlib.Omega.{arith}
use lib.ListN.{length}
use borrow.Author.Tests.{eq-eqb, ne_eqb}
use Rattle.laws.specs.Pick.{pick}
use Rattle.laws.proofs.Cases.{Which, which, true-false}
use Rattle.laws.proofs.Cases.Which.{holds, fails}
use Rattle.said.specs.Records.{kind, value_kind, is_axis, is_value}
use Rattle.said.specs.Refusals.{form_refusal}
use Rattle.said.specs.Sets.{region_list}
use Rattle.said.specs.Job.{Said, in_axes, in_sets, Step, stop, unless, value_step, end_step, regions_only, said_at, axes_before, is_late, kind_step, step}
use Rattle.said.proofs.RecordLaws.{Formed, form-passed, form-set}
use Rattle.said.proofs.RegionLaws.{regions-length}

pub unless-stop : (n : ℕ) (x : Step) → (n ≡ 0 → ⊥) → unless n x ≡ stop n
unfolding unless
unless-stop zero x h = absurd (h refl)
unless-stop (suc n) x h = refl

pub unless-on : (n : ℕ) (x : Step) → n ≡ 0 → unless n x ≡ x
unfolding unless
unless-on n x e = rw e

-- behind whole regions
pub regions-from : (axes : ℕ) (job : List ℕ) (i : ℕ) → i % axes ≡ 0 → axes * length (region_list axes (i / axes) job) ≡ i
regions-from axes job i z = rw (regions-length axes (i / axes) job) (let a = mod-eq-sub-div-mul i axes in let b = div-mul-le_self i axes in omega arith)

-- ---- one step in the sets, behind so many axis records

module _ (axes mode : ℕ) (job r : List ℕ) (i from : ℕ) (s : Said) (f : axes * length s.regions ≡ from) where
  pub form-stops : (n : ℕ) → n ≡ form_refusal axes from true r → (n ≡ 0 → ⊥) → step axes mode job r i (in_sets s) ≡ stop n
  unfolding step axes_before is_late
  form-stops n e z = rw (f, ← e) (unless-stop n _ z)

  module _ (z : form_refusal axes from true r ≡ 0) where
    no-axis : is_axis r ≡ false
    no-axis = go (which (is_axis r))
      where
        go : Which (is_axis r) → is_axis r ≡ false
        go (holds e) = absurd (true-false refl ((form-passed axes from true r z).early e))
        go (fails e) = e

    sets-step : step axes mode job r i (in_sets s) ≡ pick (is_value r) (value_step r s) (end_step mode s)
    unfolding step axes_before is_late said_at kind_step
    sets-step = rw (f, unless-on (form_refusal axes from true r) _ z, no-axis)

    pub value-steps : kind r ≡ value_kind → step axes mode job r i (in_sets s) ≡ value_step r s
    value-steps k = sets-step ∙ rw (eq-eqb (kind r) value_kind k)

    pub end-steps : (kind r ≡ value_kind → ⊥) → step axes mode job r i (in_sets s) ≡ end_step mode s
    end-steps k = sets-step ∙ rw (ne_eqb (kind r) value_kind k)

-- ---- the first record that is no axis record: it stands behind whole regions, and is read as one in the sets

module _ (axes mode : ℕ) (job r : List ℕ) (i : ℕ) (z : form_refusal axes i false r ≡ 0) (a : is_axis r ≡ false) where
  formed : Formed axes i false r
  formed = form-passed axes i false r z

  pub whole_before : i % axes ≡ 0
  whole_before = formed.whole a

  late-too : form_refusal axes i true r ≡ 0
  late-too = sym (form-set axes i true r formed.known formed.zeros a whole_before)

  pub begin-step : step axes mode job r i in_axes ≡ step axes mode job r i (in_sets (regions_only (region_list axes (i / axes) job)))
  unfolding step axes_before is_late said_at regions_only
  begin-step = rw (regions-from axes job i whole_before, unless-on (form_refusal axes i false r) _ z, unless-on (form_refusal axes i true r) _ late-too)
