use Rattle.job_writing.proofs.RecordLaws.{end_is}
use Rattle.job_writing.proofs.records.put_end.Goals as goal

pub returns : goal.returns
returns c = rw (end_is _ c.head.ensures) at c.put_record.ensures
