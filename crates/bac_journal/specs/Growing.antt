-- How the copies and the log grow.
use Rattle.std.specs.Prelude.{◌≡◌, ℕ, List, ◌++◌}
use Rattle.bac_protocol.specs.Service.{Octets}
use Rattle.bac_transaction.specs.Sends.{Datagram}
use Rattle.bac_world.specs.Node.{Node}
use Rattle.bac_world.specs.World.{Copy, Note, AreCopied}
use Rattle.bac_journal.specs.Entering.{Every, CanLeave}
use Rattle.bac_journal.specs.Views.{AreLinks}

-- datagrams that a node sends to nodes become the newest copies
pub record BecomeCopies (nodes : List Node) (now sender : ℕ) (sends : List Datagram) (old new : List Copy) : Type 0 where
  pub sent : List Copy
  pub copies : new ≡ old ++ sent
  pub copied : AreCopied nodes now sender sends sent

-- each of them can
abbrev pub CanBecome : List Node → List Note → (now sender : ℕ) → List Datagram → Type 0
CanBecome nodes notes now sender sends = Every (CanLeave nodes notes now sender) sends

-- there are nodes with these links, and each datagram goes to one of them, in a transaction that was asked, or to a stranger
pub record CanGo (links : List Octets) (notes : List Note) (now sender : ℕ) (sends : List Datagram) : Type 0 where
  pub nodes : List Node
  pub linked : AreLinks nodes links
  pub can : CanBecome nodes notes now sender sends
