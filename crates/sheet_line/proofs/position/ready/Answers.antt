use Rattle.sheet_line.proofs.Ready.{no_room, has_room}
use Rattle.sheet_line.proofs.position.ready.Goals as goal

pub returns-then-room-need : goal.returns-then-room-need
returns-then-room-need c = has_room _ _ _ _ c.if-room-need.true c.goes_on.ensures

pub returns-else-room-need : goal.returns-else-room-need
returns-else-room-need c = no_room c.args.position _ _ c.if-room-need.false
