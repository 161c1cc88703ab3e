-- The values of keys after adding a slot.
use Rattle.bac_slots.proofs.Slots.{IsDistinct-push}
use Rattle.bac_slots.proofs.Values.{put_found, put_others}
use Rattle.bac_slots.proofs.laws.putting_a_slot.Goals as goal

pub returns-clause-distinct : goal.returns-clause-distinct
returns-clause-distinct g c = λ slots x d e. IsDistinct-push g.K.PartialEq.eq slots x d e

pub returns-clause-found : goal.returns-clause-found
returns-clause-found g c = λ slots x e. put_found _ _ g.K.PartialEq.eq g.met.K.Eq.laws x slots e

pub returns-clause-others : goal.returns-clause-others
returns-clause-others g c = λ slots x other e. put_others _ _ g.K.PartialEq.eq g.met.K.Eq.laws x other slots e
