-- The store that a done build leaves is well formed throughout, in both modes: it parses to the store of the final groups. Assumes nothing.
use mathlib.Core.Path.{◌≡◌, refl, ap, ◌∙◌}
use mathlib.Core.List.{List, []}
use mathlib.Core.Option.{some}
use Prim.Native.Nat.{ℕ, ◌≤◌}
use native.Mathlib.Omega.{arith}
use lib.Dec.{eqb}
use lib.ListN.{length, get_or, take}
use Rattle.laws.specs.Pick.{pick}
use Rattle.laws.proofs.Cases.{Which, which}
use Rattle.laws.proofs.Cases.Which.{holds, fails}
use Rattle.groups.specs.Groups.{groups_of}
use Rattle.stores.specs.Stores.{Parsed, parse}
use Rattle.store.specs.Placing.{made_of}
use Rattle.readback.proofs.Parsing.{made-parsed}
use Rattle.sets.specs.Set.{Set}
use Rattle.said.specs.Job.{Said}
use Rattle.said.proofs.SoundLaws.{Bytes}
use Rattle.encoder.specs.Packed.{shared, own}
use Rattle.finishing.specs.declared.answers.Report.{Report}
use Rattle.finishing.specs.Late.{store_for}
use Rattle.limits.specs.Limits.{max_shapes}
use Rattle.call.specs.Lending.{Lending}
use Rattle.call.specs.Build.{coords_in_use, packed_of, after}
use Rattle.accepted.proofs.ShortLaws.{Storable, fit}
use Rattle.accepted.proofs.ReadBack.{Sized, shared-storable, own-storable}
use Rattle.accepted.proofs.Accepted.{Accepted, packed_in, accepted-sized, store-front}

shared-groups : (n : ℕ) (all : List Set) → (shared n all).groups ≤ max_shapes → length (groups_of n all) ≤ max_shapes
unfolding shared
shared-groups n all h = h

storable : (axes mode : ℕ) (s : Said) → Sized axes (length s.used) (coords_in_use s) s.sets → (packed_of mode s).groups ≤ max_shapes
    → Storable axes (length s.used) (coords_in_use s) (packed_of mode s)
unfolding packed_of
storable axes mode s z h = go (which (eqb mode 0)) h
  where
    go : Which (eqb mode 0) → (pick (eqb mode 0) (shared (length s.used) s.sets) (own (length s.used) s.sets)).groups ≤ 1024
        → Storable axes (length s.used) (coords_in_use s) (pick (eqb mode 0) (shared (length s.used) s.sets) (own (length s.used) s.sets))
    go (holds e) h = rw e (shared-storable axes (length s.used) (coords_in_use s) s.sets z (shared-groups (length s.used) s.sets (rw e at h)))
    go (fails e) h = rw e (own-storable axes (length s.used) (coords_in_use s) s.sets z)

module _ (c : Lending) (r : Report) (a : Accepted c r) where
  abbrev pub made_in : Parsed
  made_in = made_of c.axes (coords_in_use a.said) (λ x. get_or (packed_in c a.said).sets x []) (packed_in c a.said).finals

  pub made-axes : made_in.axes ≡ c.axes
  unfolding made_of
  made-axes = refl

  -- THE LAW
  pub store-parsed : Bytes c.job → parse (take r.bytes (after c).lent.out) ≡ some made_in
  unfolding store_for
  store-parsed bytes =
      let k = packed_of c.mode a.said in
      let f = storable c.axes c.mode a.said (accepted-sized c r a bytes) a.room.shapes-few in
      ap parse (store-front c r a)
      ∙ made-parsed c.axes (coords_in_use a.said) (λ x. get_or k.sets x []) k.finals
      (fit c.axes (length a.said.used) (coords_in_use a.said) k f) (omega (arith, a.room.bytes-few))
