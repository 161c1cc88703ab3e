-- What contracts see of the types in code.
use Rattle.std.specs.Prelude.{Bool, false, List, map}
use Rattle.std.specs.Ordering.{on}
use Rattle.std.specs.declared.cmp.Ordering.{Ordering}
use Rattle.bac_apdu.specs.Views.{limits_view}
use Rattle.bac_npdu.specs.Peers.{PeerView}
use Rattle.bac_npdu.specs.Views.{peer_view}
use Rattle.bac_slots.specs.declared.slot.Slot.{Slot}
use Rattle.bac_protocol.specs.Context as context
use Rattle.bac_protocol.specs.Serving as serving
use Rattle.bac_transaction.specs.declared.context.Context.{Context}
use Rattle.bac_transaction.specs.declared.peer_key.PeerKey.{PeerKey}
use Rattle.bac_transaction.specs.declared.settings.Settings.{Settings}
use Rattle.bac_transaction.specs.declared.rules.ReadRule as rule
use Rattle.bac_transaction.specs.declared.rules.ReadRule.TheVariants as rule_case
use Rattle.bac_transaction.specs.declared.rules.Rules.{Rules}
use Rattle.bac_transaction.specs.Ends.{context_of}
use Rattle.bac_transaction.specs.Reuse.{is_read}
use Rattle.bac_transaction.specs.Sharing.{EndRules}
use Rattle.bac_transaction.specs.Keys as keys

-- a key in code, as a plain one
abbrev pub peer_key_view : PeerKey → keys.PeerKey
peer_key_view k = record { peer = peer_view k.peer; invoke_id = k.invoke_id }

-- what an end is set to
abbrev pub settings_view : Settings → context.Settings
settings_view s = record { limits = limits_view s.limits; window = s.window.size }

-- a server's rules
abbrev pub read_rule_view : rule.ReadRule → serving.ReadRule
read_rule_view rule_case.Kept = serving.Kept
read_rule_view rule_case.Fresh = serving.Fresh is_read

-- slots are shared only where reads are performed anew
abbrev pub share_view : rule.ReadRule → Bool → Bool
share_view rule_case.Kept share = false
share_view rule_case.Fresh share = share

abbrev pub rules_view : Rules → EndRules
rules_view r = record { machine = record { reads = read_rule_view r.reads; remember = r.remember }; share = share_view r.reads r.share }

-- what a machine is told
abbrev pub context_view : Context → context.Context
context_view c = context_of (settings_view c.settings) c.moment (peer_key_view c.key)

-- the other end of the transaction
abbrev pub peer_of : Context → PeerView
peer_of c = peer_view c.key.peer

-- a table's slot as a slot of an end
abbrev pub slot_view : {T : Type 0} → Slot PeerKey T → Slot keys.PeerKey T
slot_view s = record { key = peer_key_view s.key; begin = s.begin; value = s.value }

-- a table's slots as those of an end
abbrev pub slots_view : {T : Type 0} → List (Slot PeerKey T) → List (Slot keys.PeerKey T)
slots_view slots = map slot_view slots

-- the order and the equality of keys in code
abbrev pub code_key_cmp : PeerKey → PeerKey → Ordering
code_key_cmp = on peer_key_view keys.peer_key_cmp

-- whether two keys in code are one
abbrev pub code_same_key : PeerKey → PeerKey → Bool
code_same_key = on peer_key_view keys.same_key
