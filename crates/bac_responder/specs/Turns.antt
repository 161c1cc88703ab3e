-- What an event makes of the server's end, in code.
use Rattle.std.specs.Prelude.{◌≡◌, List, Option, Some, None}
use Rattle.bac_store.specs.Stores.{Store}
use Rattle.bac_transaction.specs.Keys.{PeerKey}
use Rattle.bac_transaction.specs.Sends.{Datagram, Pairwise, IsSent}
use Rattle.bac_transaction.specs.Ends.{Act, ServerEnd, ServerTurn}
use Rattle.bac_transaction.specs.Services.{Performed, IsPerformed, store_after}

-- a request was performed, for that transaction
pub record Acted : Type 0 where
  pub key : PeerKey
  pub performed : Performed

pub record IsActed (s : Store) (a : Act) (x : Acted) : Type 0 where
  pub key : x.key ≡ a.key
  pub performed : IsPerformed s a.effect x.performed

-- what was performed, if anything
abbrev pub AreActed : Store → Option Act → Option Acted → Type 0
AreActed s None None = Unit {0}
AreActed s None (Some x) = ⊥
AreActed s (Some a) None = ⊥
AreActed s (Some a) (Some x) = IsActed s a x

abbrev pub performed_by : Option Acted → Option Performed
performed_by None = None
performed_by (Some x) = Some x.performed

abbrev pub acted_of : PeerKey → Option Performed → Option Acted
acted_of key None = None
acted_of key (Some q) = Some (record { key = key; performed = q })

-- the turn is done: the end after it, one datagram for each of its sends, its act, and the store after that
pub record IsServed (turn : ServerTurn) (s : Store) (sent : List Datagram) (x : Option Acted) (new : ServerEnd) (t : Store) : Type 0 where
  pub end : new ≡ turn.end
  pub sends : Pairwise IsSent turn.sends sent
  pub act : AreActed s turn.act x
  pub store : t ≡ store_after s (performed_by x)
