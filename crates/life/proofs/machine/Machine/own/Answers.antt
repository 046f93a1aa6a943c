use Rattle.life.proofs.SoundLemmas.{here_in}
use Rattle.life.proofs.RecheckLemmas.{has_room, pids_of, room_of}
use Rattle.life.proofs.LoanLemmas.{machine_lent}
use Rattle.life.proofs.ViewLemmas.{state_is}
use Rattle.life.proofs.machine.Machine.own.Goals as goal

pub recheck_later-requires : goal.recheck_later-requires
recheck_later-requires g c = has_room _ _ c.self.invariant.sound.regular c.self.invariant.listed

pub invariant_of-self-lent : goal.invariant_of-self-lent
invariant_of-self-lent g c = λ w. machine_lent _ _ _ _ _ c.args.pid w (here_in c.args.pid (state_is c.self.view_is) c.requires) c.self.invariant (pids_of c.recheck_later.ensures) (room_of c.recheck_later.ensures)
