use Rattle.scroll.proofs.lemmas.Leaves.{leaves-exchange}
use Rattle.scroll.proofs.laws.histories.writes_apart_may_be_exchanged.Goals as goal

pub returns : goal.returns
returns c old mid new offset offset' leaves leaves' r r' apart w w' =
    leaves-exchange old mid new offset offset' leaves leaves' r r' apart w w'
