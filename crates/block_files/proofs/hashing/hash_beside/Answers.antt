use Rattle.block_files.proofs.States.{shared_states}
use Rattle.block_files.proofs.hashing.hash_beside.Goals as goal

pub hash_from-requires-clause-states : goal.hash_from-requires-clause-states
hash_from-requires-clause-states c = shared_states c.args.bytes.now c.args.known.bytes.now c.args.known.states.now
    c.count_shared-shared.result c.requires c.count_shared-shared.ensures.most c.count_shared-shared.ensures.shared
