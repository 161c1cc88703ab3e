-- What the status of a command says that reads or writes whole files of a peer.
use Rattle.std.specs.Prelude.{⊤}
use Rattle.bac_text.specs.declared.status.Status.{Status}

-- nothing more: what it prints is only tested
abbrev pub IsFiled : Status → Type 0
IsFiled s = ⊤
