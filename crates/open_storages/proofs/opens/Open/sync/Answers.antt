use Rattle.open_storages.proofs.opens.Open.sync.Goals as goal

pub returns-in-Err-WornOut-clause-quiet : goal.returns-in-Err-WornOut-clause-quiet
returns-in-Err-WornOut-clause-quiet g c = λ quiet. let back =
    rw c.in-Err-WornOut.field-0-is at c.in-Err-WornOut.ensures.handed_back in rw back.1 quiet
