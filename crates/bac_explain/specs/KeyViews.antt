-- The abstract value of a key.
use Rattle.bac_npdu.specs.Views.{peer_view}
use Rattle.bac_explain.specs.Keys.{Key}
use Rattle.bac_explain.specs.declared.key.TransactionKey.{TransactionKey}

abbrev pub key_view : TransactionKey → Key
key_view k = record { client = peer_view k.client; server = peer_view k.server; invoke_id = k.invoke_id }
