-- The addresses and the errors of a link over UDP.
use Rattle.std.specs.Prelude.{ℕ, Bool, true, false, List, [], ◌∷◌}
use Rattle.std.specs.declared.io.ErrorKind.{ErrorKind}
use Rattle.std.specs.declared.io.ErrorKind.TheVariants as kind
use Rattle.bac_driver.specs.declared.udp.UdpLink.{UdpLink}

-- the address of this machine that no other one reaches
abbrev pub LOCAL_HOST : List ℕ
LOCAL_HOST = 127 ∷ 0 ∷ 0 ∷ 1 ∷ []

-- the IPv4 address that it was bound to, 0.0.0.0 for each of this machine
abbrev pub bound_host : UdpLink → List ℕ
bound_host l = l.host

-- the port that it was bound to, 0 for any free one
abbrev pub bound_port : UdpLink → ℕ
bound_port l = l.port

-- its address (clause J.1.2)
abbrev pub udp_address : UdpLink → List ℕ
udp_address l = l.address

-- the errors of the system which mean that no datagram came: the time was over (WouldBlock or TimedOut, by the system), or a signal came first (Interrupted)
abbrev pub is_empty_wait : ErrorKind → Bool
is_empty_wait kind.WouldBlock = true
is_empty_wait kind.TimedOut = true
is_empty_wait kind.Interrupted = true
is_empty_wait _ = false
