use Rattle.job_writing.proofs.RecordLaws.{three-put}
use Rattle.job_writing.proofs.records.put_record.Goals as goal

pub returns : goal.returns
returns c = three-put _ _ _ _ _ _ _ _ c.requires c.put.ensures c.put-2.ensures c.put-3.ensures
