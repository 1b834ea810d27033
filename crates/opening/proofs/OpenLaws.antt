-- The first part of a build leaves what merging and the last part ask for. Assumes nothing.
use mathlib.Core.Path.{◌≡◌, refl, sym, subst, ◌∙◌}
use mathlib.Core.List.{List}
use Prim.Native.Nat.{ℕ, ◌<◌}
use native.Mathlib.Omega.{arith}
use lib.ListN.{length}
use Rattle.groups.specs.Groups.{groups_of, max_shapes}
use Rattle.said.specs.Job.{Said, Outcome, refused, fine, in_axes, records_from}
use Rattle.said.specs.Records.{record_count}
use Rattle.said.specs.Refusals.{early_refusal}
use Rattle.encoder.specs.declared.places.Places.{Places}
use Rattle.std.specs.declared.option.Option.{Option}
use Rattle.encoder.specs.declared.encoded.Gathered.{Gathered}
use Rattle.encoder.specs.LentArranged.{Gathers, GatheredAt}
use Rattle.encoder.proofs.ReadyLaws.{tables-laid, ready-none, ready}
use Rattle.panel.specs.declared.Profile.{Profile}
use Rattle.panel.specs.Panelled.{panelled}
use Rattle.std.specs.Prelude.{Some, None, Result, Ok, Err}
use Rattle.refusals.specs.declared.Refused.{Refused}
use Rattle.refusals.specs.declared.Refusal.{Refusal}
use Rattle.refusals.specs.declared.Refusal.TheVariants.{ShapesFull}
use Rattle.refusals.specs.Refusals.{number, of_job}
use Rattle.opening.specs.LentCollected.{Collected}
use Rattle.opening.specs.declared.opening.Stage.{Stage}
use Rattle.opening.specs.LentOpened.{OpenedAt, OpenedBy}
use Rattle.opening.proofs.KeptLaws.{collected-kept}

-- ---- the records

pub read-refused : (h : Profile) (axes mode : ℕ) (job : List ℕ) (o : Outcome) (x : Refused) → o ≡ refused (number x.refusal) x.place → {w w' : List ℕ} → length w' ≡ length w → OpenedAt h axes mode job o w w' (Err x)
read-refused h axes mode job o x e l = record { long = l; is = rw e (refl, refl); ready = tt }

module _ {axes mode starts : ℕ} {job w : List ℕ} {p : Places} {x : Said} (c : Collected axes starts job p x w) (h : Profile) (o : Outcome) (e : o ≡ fine x) (w₀ : List ℕ) (long : length w ≡ length w₀) where
  pub read-alone : (mode ≡ 0 → ⊥) → OpenedAt h axes mode job o w₀ w (Ok (record { axes = axes; mode = mode; starts = starts; places = p; groups = 0; distinct = 0 }))
  read-alone z = record {
    long = long;
    is = rw e (record { axes-is = refl; mode-is = refl; collected = c; joins = λ y. absurd (z y); alone = λ y. refl });
    ready = ready-none p w (tables-laid c.fit.laid (omega arith));
  }

  module _ {w' : List ℕ} {r : Option Gathered} (g : GatheredAt p w w' r) (z : mode ≡ 0) where
    result : (a : Option Gathered) → r ≡ a → Gathers p w w' a
    result a q = subst (λ (y : Option Gathered). Gathers p w w' y) q g.result

    longer : length w' ≡ length w₀
    longer = g.only.long ∙ long

    pub read-full : r ≡ None → OpenedAt h axes mode job o w₀ w' (Err (record { refusal = ShapesFull; place = 0 }))
    read-full q =
        let many : max_shapes < length (groups_of (length x.used) x.sets) = rw (← c.sets-are, c.regions-are) (result None q) in
        record { long = longer; is = rw e (record { shared = z; number_is = refl; place-is = refl; many = many }); ready = tt }

    pub read-groups : (groups ids : ℕ) → r ≡ Some (record { groups = groups; distinct = ids }) → OpenedAt h axes mode job o w₀ w' (Ok (record { axes = axes; mode = mode; starts = starts; places = p; groups = groups; distinct = ids }))
    read-groups groups ids q = record {
      long = longer;
      is = rw e (record { axes-is = refl; mode-is = refl; collected = collected-kept c g.only; joins = λ v. result (Some (record { groups = groups; distinct = ids })) q; alone = λ f. absurd (f z) });
      ready = ready (result (Some (record { groups = groups; distinct = ids })) q);
    }

-- ---- the whole of it

module _ (h : Profile) (axes mode : ℕ) (job w : List ℕ) (pairs : ℕ) where
  pub opened-early : (x : Refusal) → number x ≡ early_refusal axes mode job (length w) pairs → OpenedBy h axes mode job w pairs w (Err (of_job x))
  opened-early x e = record { long = refl; is = record { kept = refl; number_is = e; place-is = refl } }

  pub opened-late : 0 ≡ early_refusal axes mode job (length w) pairs → (records : ℕ) → records ≡ record_count job → {w' : List ℕ} {r : Result Stage Refused}
      → OpenedAt h axes mode job (panelled h job (records_from axes mode job job records 0 in_axes)) w w' r → OpenedBy h axes mode job w pairs w' (Ok r)
  opened-late e records n {w'} {r} o = record {
    long = o.long;
    is = record {
      not-early = sym e;
      opened = subst (λ (k : ℕ). OpenedAt h axes mode job (panelled h job (records_from axes mode job job k 0 in_axes)) w w' r) n o;
    };
  }
