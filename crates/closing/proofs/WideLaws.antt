-- Whether what is packed is too wide for a profile: as it is of the final groups in work; and never where there are too many shapes, or no sets. Assumes nothing.
use mathlib.Core.Path.{◌≡◌, refl, sym, ap, ◌∙◌}
use mathlib.Core.Bool.{Bool, true, false, ◌&&◌}
use mathlib.Core.List.{List, [], map}
use Prim.Native.Nat.{ℕ, ◌+◌, ◌*◌, ◌≤◌, ◌<◌}
use native.Mathlib.Omega.{arith}
use lib.ListN.{length, get_or}
use borrow.Author.Tests.{le-leb, lt-leb}
use Rattle.groups.specs.Groups.{max_shapes}
use Rattle.groups.specs.Cover.{cover_from}
use Rattle.rows.specs.Columns.{of_width, columns_of}
use Rattle.store.specs.Lent.{Handed, finals_at}
use Rattle.limits.specs.Limits.{max_regions}
use Rattle.panel.specs.declared.Profile.{Profile}
use Rattle.panel.specs.declared.Profile.TheVariants.{Plain, Panel}
use Rattle.narrow.specs.Columns.{is_some_wide, is_too_wide}
use Rattle.narrow.proofs.WideLaws.{too-wide-shapes}
use Rattle.encoder.specs.Packed.{Packed, own}
use Rattle.encoder.specs.Lent.{relabel, PackedAt}
use Rattle.encoder.specs.declared.places.Places.{Places}
use Rattle.encoder.specs.declared.encoded.Encoded.{Encoded}
use Rattle.finishing.specs.Lent.{FinishFit}
use Rattle.finishing.proofs.FinishLaws.{words-fit}
use Rattle.finishing.proofs.WordsLaws.{groups-to, handed}
use Rattle.call.specs.Profiled.{is_wide}

and_none : (a : Bool) → a && false ≡ false
and_none true = refl
and_none false = refl

and-all : (a : Bool) → a && true ≡ a
and-all true = refl
and-all false = refl

-- too many shapes: R10 comes first
pub full-narrow : (h : Profile) (k : Packed) → max_shapes < k.groups → is_wide h k ≡ false
unfolding is_wide
full-narrow h k l = rw (lt-leb k.groups max_shapes l) (and_none (is_too_wide h k.finals))

-- one group of no columns
pub none-narrow : (h : Profile) → is_wide h (own 0 []) ≡ false
unfolding is_wide own is_too_wide is_some_wide columns_of of_width cover_from
none-narrow Plain = refl
none-narrow Panel = refl

-- what is packed in work
module _ {k : Packed} {p : Places} {e : Encoded} {w : List ℕ} (h : Profile) (at : PackedAt k p e w) where
  finals-wide : is_too_wide h k.finals ≡ is_too_wide h (finals_at p.regions p.finals e.count w)
  unfolding relabel
  finals-wide = ap (is_too_wide h) (sym at.finals-are) ∙ too-wide-shapes h (map (λ x. get_or k.ids x 0)) (finals_at p.regions p.finals e.count w)

  pub packed-wide : (b : Bool) → b ≡ is_too_wide h (finals_at p.regions p.finals e.count w) → is_wide h k ≡ b
  unfolding is_wide
  packed-wide b q =
      let few = le-leb k.groups max_shapes (omega (arith, at.groups-is, at.groups-few)) in
      ap (λ (x : Bool). is_too_wide h k.finals && x) few ∙ and-all (is_too_wide h k.finals) ∙ finals-wide ∙ sym q

-- what looking asks for
pub wide-fit : {axes starts : ℕ} {job : List ℕ} {p : Places} {e : Encoded} {w : List ℕ} → FinishFit axes starts job p e w
    → (p.regions ≤ max_regions) × ((p.finals + 3 * e.count ≤ length w) × ((g : ℕ) → g < e.count → Handed p.regions 0 w (p.finals + 3 * g)))
wide-fit f = (f.packed.regions-few, (groups-to (words-fit f), handed (words-fit f)))
