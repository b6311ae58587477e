-- Any two outcomes that a promise allows are equal.
use Rattle.condition.proofs.Settled.{settled}
use Rattle.trestlecap.specs.Theorems.{SwitchOnSettled, RunListSettled, RestartSettled, CallSettled, LookUpSettled, PictureSettled, BiasSettled, MendSettled}

pub switch_on_settled : SwitchOnSettled
switch_on_settled state r s left left' p q = (settled p.number q.number, settled p.kept q.kept)

pub run_list_settled : RunListSettled
run_list_settled state events answers r s left left' out out' p q = (settled p.number q.number, settled p.kept q.kept, settled p.buffer q.buffer)

pub restart_settled : RestartSettled
restart_settled state r s left left' p q = (settled p.number q.number, settled p.kept q.kept)

pub call_settled : CallSettled
call_settled state call characters wrap r s left left' w w' p q = (settled p.number q.number, settled p.kept q.kept, settled p.said q.said)

pub look_up_settled : LookUpSettled
look_up_settled state night written quarters r s w w' m m' p q = (settled p.number q.number, settled p.first q.first, settled p.second q.second)

pub picture_settled : PictureSettled
picture_settled state digits rom dark out r s left left' p q = (settled p.number q.number, settled p.buffer q.buffer)

pub bias_settled : BiasSettled
bias_settled vdd span bias volts r s left left' p q = (settled p.number q.number, settled p.buffer q.buffer)

pub mend_settled : MendSettled
mend_settled bytes mended kept dropped altered r s left left' k k' d d' a a' p q =
    (settled p.number q.number, settled p.buffer q.buffer, settled p.first q.first, settled p.second q.second, settled p.third q.third)
