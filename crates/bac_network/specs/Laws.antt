-- What holds of every world in code.
use Rattle.bac_network.specs.AsksAlone.{HasAsksAloneNow, IsOnceOfAsksNow}
use Rattle.bac_network.specs.Histories.{AreChangesPermittedNow, AreEndedOnceNow, ArePerformedOnceNow, AreReplayedNow, AreServedApartNow, HasHistory}
use Rattle.bac_network.specs.Histories.{HasNoStrangerNow, HasRequestsAloneNow, IsOnceAmongNodesNow, IsOnceByRequestsAloneNow, IsOnceNow, IsOnceSoNow, WorldView}
use Rattle.bac_network.specs.OfNone.{HasStrangersOfNoneNow}

-- its log is right with its stores, whichever nodes let invoke IDs be used again: each claim has a name
pub record HasRightLog (w : WorldView) : Type 0 where
  pub once : IsOnceSoNow w
  pub ended : AreEndedOnceNow w
  pub permitted : AreChangesPermittedNow w
  pub stores : AreReplayedNow w
  pub strangers : HasStrangersOfNoneNow w

-- by its log every accepted ask was performed at most once, as it was asked; so it is where no node lets invoke IDs be used again
pub record HasStrictLog (w : WorldView) : Type 0 where
  pub once : IsOnceNow w
  pub performed : ArePerformedOnceNow w

-- all that holds besides where no node does
pub record IsStrict (w : WorldView) : Type 0 where
  pub history : HasHistory w
  pub log : HasStrictLog w
  pub requests_alone : HasRequestsAloneNow w → IsOnceByRequestsAloneNow w
  pub among_nodes : HasNoStrangerNow w → IsOnceAmongNodesNow w
  pub asks_alone : HasAsksAloneNow w → IsOnceOfAsksNow w
  pub apart : AreServedApartNow w
