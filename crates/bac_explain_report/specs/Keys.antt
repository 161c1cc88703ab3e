-- The texts of transaction keys.
use Rattle.std.specs.Prelude.{ℕ, List, ◌++◌, codes, decimal}
use Rattle.bac_explain.specs.Keys.{Key}
use Rattle.bac_text.specs.Peers.{peer_text}

-- the client, the server and the invoke ID
abbrev pub key_text : Key → List ℕ
key_text k = peer_text k.client ++ (codes " > " ++ (peer_text k.server ++ (codes " id " ++ decimal k.invoke_id)))
