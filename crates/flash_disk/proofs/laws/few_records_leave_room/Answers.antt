use Rattle.flash_disk.proofs.Crowding.{half_full, among_eight}
use Rattle.flash_disk.proofs.laws.few_records_leave_room.Goals as goal

pub returns-clause-among : goal.returns-clause-among
returns-clause-among c pages blocks copies copy below stand room =
    half_full pages blocks copies copy (λ b. (stand b).0) (λ b. (stand b).1) (λ b. (stand b).2) room below

pub returns-clause-apart : goal.returns-clause-apart
returns-clause-apart c pages blocks copy below stand room =
    let among = among_eight pages blocks copy below stand in
    half_full pages blocks 8 copy (λ b. (among b).0) (λ b. (among b).1) (λ b. (among b).2) room below

pub returns-clause-sixteen : goal.returns-clause-sixteen
returns-clause-sixteen c pages copy below stand room = returns-clause-apart c pages 16 copy below stand room
