-- What contracts see of a world's parts.
use Rattle.std.specs.Prelude.{◌≡◌, ℕ, List, slice_get}
use Rattle.bac_protocol.specs.Service.{Octets}
use Rattle.bac_protocol.specs.Transaction.{Key}
use Rattle.bac_world.specs.Node.{Node}
use Rattle.bac_world.specs.World as world
use Rattle.bac_world.specs.World.{link_at}
use Rattle.bac_journal.specs.declared.copies.Copy.{Copy}
use Rattle.bac_journal.specs.declared.transaction.Transaction.{Transaction}

abbrev pub key_view : Transaction → Key
key_view t = record { client = t.client; server = t.server; invoke_id = t.invoke_id }

abbrev pub copy_view : Copy → world.Copy
copy_view c = record { moment = c.moment; from = c.from; to = c.to; key = key_view c.transaction; octets = c.octets.items }

-- the nodes' links, in their order
abbrev pub AreLinks : List Node → List Octets → Type 0
AreLinks nodes links = (i : ℕ) → link_at nodes i ≡ slice_get links i
