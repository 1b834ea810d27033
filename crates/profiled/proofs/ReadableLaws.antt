-- What the panel's profile accepts, the instrument's reader can read: over the bytes of the store. Assumes nothing.
use mathlib.Core.Path.{◌≡◌, refl, sym, ap, subst, ◌∙◌}
use mathlib.Core.Bool.{Bool, true, false, ◌&&◌}
use mathlib.Core.List.{[]}
use Prim.Native.Nat.{ℕ, ◌≤◌}
use native.Mathlib.Omega.{arith}
use lib.ListN.{length, get_or, take}
use borrow.Author.Tests.{le-leb}
use Rattle.laws.specs.Every.{All}
use Rattle.laws.proofs.EveryLaws.{all-imp, all-and}
use Rattle.groups.specs.Groups.{max_shapes}
use Rattle.rows.specs.Columns.{columns_of}
use Rattle.store.specs.Placing.{Final}
use Rattle.said.specs.Refusals.{wide_subtable}
use Rattle.said.specs.Job.{Said, fine}
use Rattle.said.proofs.SoundLaws.{Bytes}
use Rattle.panel.specs.declared.Profile.TheVariants.{Panel}
use Rattle.panel.specs.Panelled.{panelled}
use Rattle.narrow.specs.Columns.{most_columns, is_some_wide, is_too_wide}
use Rattle.narrow.proofs.WideLaws.{all-narrow}
use Rattle.encoder.specs.Packed.{Packed}
use Rattle.finishing.specs.declared.answers.Report.{Report}
use Rattle.finishing.specs.Answers.{Refused, Done}
use Rattle.call.specs.Lending.{Lending, Left}
use Rattle.call.specs.Build.{coords_in_use, packed_of, outcome_of}
use Rattle.call.specs.Profiled.{is_wide, answer_by, after_by}
use Rattle.accepted.proofs.Accepted.{Accepted, accepted, packed_in}
use Rattle.accepted.proofs.WholeBack.{made_in, store-parsed}
use Rattle.refusing.proofs.OddRows as rows
use Rattle.demands.proofs.Demand2.{demand2}
use Rattle.demands.proofs.Demand3.{demand3}
use Rattle.profiled.specs.Readable.{Readable}
use Rattle.profiled.specs.Panel.{PanelDone}
use Rattle.profiled.proofs.ShortSets.{sets-short}
use Rattle.profiled.proofs.LowShapes.{Low, packed-low}
use Rattle.profiled.proofs.LowTables.{Narrow, made-readable}
use Rattle.profiled.proofs.Rows.{Ways, ways, built_alike}
use Rattle.profiled.proofs.Rows.Ways.{at-record, too_wide, plainly}

not_wide : (k : Packed) → is_wide Panel k ≡ false → k.groups ≤ max_shapes → is_some_wide k.finals ≡ false
unfolding is_wide is_too_wide
not_wide k e h = go (is_some_wide k.finals) (ap (λ (b : Bool). is_some_wide k.finals && b) (sym (le-leb k.groups max_shapes h)) ∙ e)
  where
    go : (b : Bool) → b && true ≡ false → b ≡ false
    go true f = f
    go false f = refl

module _ (c : Lending) (r : Report) (done : answer_by Panel c ≡ Done r) where
  abbrev taken : Accepted c r
  taken = accepted c r (built_alike c r done).0

  -- the profile took the records, and no final group is wide
  record Known : Type 0 where
    panelled-is : panelled Panel c.job (outcome_of c) ≡ fine (accepted c r (built_alike c r done).0).said
    narrow-is : is_wide Panel (packed_of c.mode (accepted c r (built_alike c r done).0).said) ≡ false

  known : Known
  known = go (ways c)
    where
      go : Ways c → Known
      go (at-record m j f a l) = let g : Refused m j ≡ Done r = sym a ∙ done in let z : ◌≡◌ {A = ℕ} 0 1 = cc in absurd (omega arith)
      go (too_wide s f v a l) = let g : Refused wide_subtable 0 ≡ Done r = sym a ∙ done in let z : ◌≡◌ {A = ℕ} 0 1 = cc in absurd (omega arith)
      go (plainly s f v a l) =
          let g : fine s ≡ fine taken.said = sym (rows.taken-alike c.job (outcome_of c) s f).0 ∙ taken.said-is in
          let q : s ≡ taken.said = cc in
          record {
            panelled-is = f ∙ ap fine q;
            narrow-is = subst (λ (x : Said). is_wide Panel (packed_of c.mode x) ≡ false) q v;
          }

  finals-narrow : All Narrow (packed_of c.mode (accepted c r (built_alike c r done).0).said).finals
  finals-narrow =
      let k = packed_of c.mode taken.said in
      let t = (rows.taken-alike c.job (outcome_of c) taken.said known.panelled-is).1 in
      all-imp (λ (g : Final) h. record { low = h.0; few = h.1 }) k.finals
      (all-and (λ (g : Final). Low g.shape) (λ (g : Final). length (columns_of g.shape) ≤ most_columns) k.finals
      (packed-low c.mode taken.said (sets-short c.axes c.mode c.job t taken.said taken.walked))
      (all-narrow k.finals (not_wide k known.narrow-is taken.room.shapes-few)))

  -- THE LAW
  pub readable : Bytes c.job → Readable (take r.bytes (after_by Panel c).lent.out)
  readable bytes =
      subst (λ (x : Left). Readable (take r.bytes x.lent.out)) (sym (built_alike c r done).1)
      (record {
        store = made_in c r taken;
        parsed = store-parsed c r taken bytes;
        tables = made-readable c.axes (coords_in_use taken.said) (λ x. get_or (packed_in c taken.said).sets x []) (packed_in c taken.said).finals finals-narrow;
      })

  -- THE THEOREM
  pub panel-done : Bytes c.job → PanelDone c r
  panel-done bytes = record {
    left-alike = (built_alike c r done).1;
    sets-read = demand2 c r bytes (built_alike c r done).0;
    merges-ruled = λ m. demand3 c r m (built_alike c r done).0;
    readable = readable bytes;
  }
