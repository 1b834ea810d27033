use native.Mathlib.Omega.{arith}
use Rattle.job_writing.proofs.JobLaws.{header_of, front-room, back-room, job-put}
use Rattle.job_writing.proofs.write_job.Goals as goal

pub write_regions-p-requires : goal.write_regions-p-requires
write_regions-p-requires c = record { s_value = (header_of _ c.requires.s_value.0, omega (arith, c.requires.s_value.1)); s_in_bounds = front-room _ c.args.out.now c.requires.s_in_bounds }

pub write_sets-requires : goal.write_sets-requires
write_sets-requires c = record { s_value = (c.requires.s_value.0, c.requires.s_value.2); s_in_bounds = back-room _ _ c.requires.s_in_bounds c.write_regions-p.ensures }

pub returns : goal.returns
returns c = job-put _ _ c.requires.s_in_bounds c.write_regions-p.ensures c.write_sets.ensures
