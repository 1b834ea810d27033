-- The forecast of what a sound job says is the length of its store, in both modes. Assumes nothing.
use mathlib.Core.Path.{◌≡◌}
use mathlib.Core.List.{[]}
use mathlib.Core.Logic.{⊎_elim}
use Prim.Native.Nat.{◌/◌}
use native.Mathlib.Omega.{arith}
use lib.ListN.{length, get_or}
use borrow.Author.Tests.{eq-eqb, ne_eqb}
use Rattle.laws.proofs.Cases.{same_or_not}
use Rattle.laws.proofs.EveryLaws.{all-imp}
use Rattle.store.specs.Placing.{Final, forecast_of}
use Rattle.store.proofs.ForecastLaws.{forecast-exact}
use Rattle.said.specs.Records.{record_bytes}
use Rattle.said.specs.Job.{Said, fine}
use Rattle.said.proofs.SoundLaws.{Bytes, fine-walk}
use Rattle.encoder.specs.Packed.{Packed}
use Rattle.finishing.specs.Late.{store_for, regions_kept}
use Rattle.call.specs.Lending.{Lending}
use Rattle.call.specs.Build.{coords_in_use, packed_of, outcome_of}
use Rattle.accepted.proofs.PackedLaws.{WellPacked, shared-good, own-good}
use Rattle.accepted.proofs.ReadBack.{Sized}
use Rattle.accepted.proofs.Accepted.{sized}

module _ (c : Lending) (s : Said) (e : outcome_of c ≡ fine s) (b : Bytes c.job) where
  abbrev k : Packed
  k = packed_of c.mode s

  pub sizes : Sized c.axes (length s.used) (coords_in_use s) s.sets
  sizes =
      let w = fine-walk c.axes c.mode c.job (length c.work) (length c.pairs) s e in
      sized c.axes c.mode c.job (length c.job / record_bytes) s w.1 w.0.some b w.0.most w.0.few

  good : WellPacked (length s.used) (packed_of c.mode s)
  unfolding packed_of
  good = ⊎_elim
      (λ (z : c.mode ≡ 0). rw (eq-eqb c.mode 0 z) (shared-good (length s.used) s.sets sizes.proper sizes.words))
      (λ d. rw (ne_eqb c.mode 0 d) (own-good (length s.used) s.sets sizes.proper sizes.words))
      (same_or_not c.mode 0)

  pub forecast-long : forecast_of c.axes (regions_kept (coords_in_use s) (packed_of c.mode s)) (packed_of c.mode s).finals
      ≡ length (store_for c.axes (coords_in_use s) (packed_of c.mode s))
  unfolding regions_kept store_for
  forecast-long =
      forecast-exact c.axes (coords_in_use s) (λ x. get_or k.sets x []) k.finals sizes.coords-whole
      (all-imp (λ (g : Final) h. omega (arith, sizes.regions-few)) k.finals good.long)
