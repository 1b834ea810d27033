use Rattle.values.proofs.EndLaws.{end-sorted}
use native.Mathlib.Omega.{arith}
use Rattle.job_scan.proofs.reading.end_set.Goals as goal

pub sort_entries-requires : goal.sort_entries-requires
sort_entries-requires c =
    let f = c.requires in
    record {
      room = omega (arith, f.body-in, f.used-to, f.slot-to, f.spare-to, f.first_to);
      room-tmp = omega (arith, f.spare-to, f.first_to);
      apart = record { apart = λ l. absurd (omega (arith, f.body-in, f.used-to, f.slot-to)) };
    }

pub returns : goal.returns
returns c =
    let f = c.requires in
    λ s uses u h. end-sorted h f.row f.body-in u f.slot-to f.spare-to f.first_to c.sort_entries.ensures
