use Rattle.job_writing.proofs.RecordLaws.{value-is}
use Rattle.job_writing.proofs.records.put_value.Goals as goal

pub returns : goal.returns
returns c = rw (value-is _ _ _ c.requires.1 c.head.ensures) at c.put_record.ensures
