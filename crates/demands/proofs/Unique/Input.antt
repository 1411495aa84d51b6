-- What no two readers may disagree on, for every public function of `input`. Printed by scripts/catalogue.
use Rattle.demands.proofs.Call.{OneAnswer, OneShown, alike}
use denote.Param.Laws.{Laws}
use denote.RattleType.{RattleType}
use Rattle.input.proofs.Held.blank.Reads as blank
use Rattle.input.proofs.Held.blank.Kinds as blank-kinds
use Rattle.input.proofs.Held.unread.Reads as unread
use Rattle.input.proofs.Held.unread.Kinds as unread-kinds
use Rattle.input.proofs.Held.taken.Reads as taken
use Rattle.input.proofs.Held.taken.Kinds as taken-kinds
use Rattle.input.proofs.Source.unread.Reads as source-unread
use Rattle.input.proofs.Source.unread.Kinds as source-unread-kinds

pub blank_unique : OneAnswer blank-kinds.ps blank-kinds.r blank.Post
blank_unique κs a x y s t p q = λ j. record { from = alike p.0 q.0 j; end = alike p.1 q.1 j }

pub unread_unique : OneShown unread-kinds.ps unread-kinds.r unread.Post (λ κs x s. x.now)
unread_unique κs a x y s t p q = alike p q

pub taken_unique : OneAnswer taken-kinds.ps taken-kinds.r taken.Post
taken_unique κs a x y s t p q = alike p q

pub source_unread_unique : (R : RattleType) (laws-R : Laws R)
    → OneShown (source-unread-kinds.ps R laws-R) (source-unread-kinds.r R laws-R) (source-unread.Post R laws-R)
    (λ κs x s. x.now)
source_unread_unique R laws-R κs a x y s t p q = alike p q
