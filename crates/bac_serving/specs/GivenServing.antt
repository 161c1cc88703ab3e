-- What the words of `serve` give, as they were read.
use Rattle.std.specs.Prelude.{◌≡◌, ◌⊎◌, ℕ, ◌*◌, ◌^◌, ◌<◌, ◌==◌, nat_lt, Bool, true, false, not, ◌&&◌, ◌||◌, List, [], ◌∷◌, codes, decimal, if◌then◌else◌}
use Rattle.std.specs.Prelude.{Option, Some, None, MatchOption, is_some}
use Rattle.std.specs.Net.Addr.{ipv4_octets}
use Rattle.std.specs.Net.Grammar.{IsIpv4Text}
use Rattle.std.specs.Str.{bytes_eq}
use Rattle.std.specs.declared.net.Ipv4Addr.{Ipv4Addr}
use Rattle.clap.specs.declared.parser.matches.ArgMatches.{ArgMatches}
use Rattle.bac_value_text.specs.Numbers.{◌>>=◌, number_of, parts_at}
use Rattle.bac_environment.specs.Addresses.{is_of_node}
use Rattle.bac_server.specs.declared.log_level.LogLevel.{LogLevel}
use Rattle.bac_server.specs.declared.log_level.LogLevel.TheVariants as level
use Rattle.bac_node.specs.declared.memory.TheConstants.{MEMORY}
use Rattle.bac_driver.specs.Nodes.{Rules}
use Rattle.bac_environment.specs.Given.{IsFlag, IsNumber, text_of, words_text}
use Rattle.bac_serving.specs.GivenGuard.{ArePeers, IsGuard}
use Rattle.bac_serving.specs.Serving.{is_reusing, rules_by}
use Rattle.bac_serving.specs.declared.serving.Serving.{Serving}

-- ---- the address

abbrev pub LOCAL_HOST : List ℕ
LOCAL_HOST = 127 ∷ 0 ∷ 0 ∷ 1 ∷ []

-- the text is that of an address with these octets
abbrev pub IsTextOfHost : (text host : List ℕ) → Type 0
IsTextOfHost text host = (a : Ipv4Addr) × IsIpv4Text text a × (ipv4_octets a ≡ host)

-- the text is no address, or one that no node can have
abbrev pub IsNoHost : (text : List ℕ) → Type 0
IsNoHost text = ((a : Ipv4Addr) → IsIpv4Text text a → ⊥) ⊎ ((host : List ℕ) × IsTextOfHost text host × (is_of_node host ≡ false))

-- the text is that address, which a node can have
abbrev pub IsHostText : (text host : List ℕ) → Type 0
IsHostText text host = IsTextOfHost text host × (is_of_node host ≡ true)

-- that of the loopback where none is given
abbrev pub IsHost : (text : Option (List ℕ)) → (host : Option (List ℕ)) → Type 0
IsHost None host = host ≡ Some LOCAL_HOST
IsHost (Some text) host = MatchOption host (IsNoHost text) (IsHostText text)

pub record IsGivenPort (given : ArgMatches) (port : Option ℕ) : Type 0 where
  pub some : (n : ℕ) → n < 2 ^ 16 → text_of given (codes "port") ≡ Some (decimal n) → port ≡ Some n
  pub none : text_of given (codes "port") ≡ None → port ≡ None

abbrev pub port_or : (port : Option ℕ) → ℕ
port_or None = 47808
port_or (Some port) = port

-- that of BACnet/IP where none is given
pub record IsPort (given : ArgMatches) (port : ℕ) : Type 0 where
  pub number : Option ℕ
  pub number_is : IsGivenPort given number
  pub is : port ≡ port_or number

pub record IsPortNamed (given : ArgMatches) (is : Bool) : Type 0 where
  pub number : Option ℕ
  pub number_is : IsGivenPort given number
  pub so : is ≡ is_some number

-- ---- slots

abbrev pub slots_without : (turns : Option ℕ) → ℕ
slots_without None = 65536
slots_without (Some turns) = 64

abbrev pub slots_by : (turns slots : Option ℕ) → ℕ
slots_by turns None = slots_without turns
slots_by turns (Some slots) = slots

pub record AreSlots (given : ArgMatches) (turns : Option ℕ) (slots : ℕ) : Type 0 where
  pub count : Option ℕ
  pub count_is : IsNumber given (codes "slots") count
  pub are : slots ≡ slots_by turns count

-- ---- invoke IDs

-- it is to remember requests, and does not let clients use them again
pub record IsInVain (given : ArgMatches) (is : Bool) : Type 0 where
  pub turns : Option ℕ
  pub told : Bool
  pub strict : Bool
  pub turns_are : IsNumber given (codes "turns") turns
  pub told_is : IsFlag given (codes "reuse") told
  pub strict_is : IsFlag given (codes "strict") strict
  pub so : is ≡ is_some (words_text given (codes "remember")) && not (is_reusing turns told strict)

-- ---- memory

abbrev pub without_plus : (digits : List ℕ) → List ℕ
without_plus [] = []
without_plus (octet ∷ digits) = if octet == 43 then digits else octet ∷ digits

abbrev pub if_last : (parts : List ℕ × List ℕ) → Option (List ℕ)
if_last (digits, []) = Some digits
if_last (digits, octet ∷ octets) = None

-- what stands before a letter that stands at the end alone
abbrev pub digits_before : (letter : ℕ) → (text : List ℕ) → Option (List ℕ)
digits_before letter text = parts_at letter text >>= if_last

abbrev pub unit_or : (unit : ℕ) → (digits : Option (List ℕ)) → (other : List ℕ × ℕ) → List ℕ × ℕ
unit_or unit None other = other
unit_or unit (Some digits) other = (digits, unit)

-- the digits, and how many octets each unit is: M for 1,048,576, K for 1,024
abbrev pub with_unit : (text : List ℕ) → List ℕ × ℕ
with_unit text = unit_or 1048576 (digits_before 77 text) (unit_or 1024 (digits_before 75 text) (text, 1))

-- a number of octets that a server may keep
abbrev pub within : (octets : ℕ) → Option ℕ
within octets = if nat_lt octets 65540 || nat_lt 1099511627776 octets then None else Some octets

abbrev pub times : (unit count : ℕ) → Option ℕ
times unit count = within (count * unit)

abbrev pub memory_named : (text : List ℕ) → Option ℕ
memory_named text = number_of (without_plus (with_unit text).0) >>= times (with_unit text).1

abbrev pub memory_given : (text : Option (List ℕ)) → Option ℕ
memory_given None = Some MEMORY
memory_given (Some text) = memory_named text

-- ---- its rules

-- whether it lets clients use invoke IDs again, for how long it then remembers a request, and how many octets it keeps at the most
pub record IsRules (given : ArgMatches) (turns : Option ℕ) (slots : ℕ) (rules : Rules) : Type 0 where
  pub told : Bool
  pub strict : Bool
  pub remember : Option ℕ
  pub memory : ℕ
  pub told_is : IsFlag given (codes "reuse") told
  pub strict_is : IsFlag given (codes "strict") strict
  pub remember_is : IsNumber given (codes "remember") remember
  pub memory_is : memory_given (words_text given (codes "memory")) ≡ Some memory
  pub is : rules ≡ rules_by (is_reusing turns told strict) slots remember memory

-- ---- its log

abbrev pub level_named : (word : List ℕ) → Option LogLevel
level_named word =
    if bytes_eq word (codes "changes") then Some level.Changes else
    (if bytes_eq word (codes "requests") then Some level.Requests else
    (if bytes_eq word (codes "all") then Some level.All else None))

abbrev pub level_given : (word : Option (List ℕ)) → Option LogLevel
level_given word = word >>= level_named

-- ---- all of them

pub record IsServing (given : ArgMatches) (s : Serving) : Type 0 where
  pub host : IsHost (words_text given (codes "at")) (Some s.host)
  pub port : IsPort given s.port
  pub port_named : IsPortNamed given s.names_port
  pub turns : IsNumber given (codes "turns") s.turns
  pub seconds : IsNumber given (codes "seconds") s.seconds
  pub slots : AreSlots given s.turns s.slots
  pub restarted : IsFlag given (codes "restarted") s.restarted
  pub rules : IsRules given s.turns s.slots s.rules
  pub guard : IsGuard given s.guard
  pub peers : s.names_peers ≡ is_some (words_text given (codes "peers"))
  pub log : IsFlag given (codes "log") s.log
  pub level : s.level ≡ level_given (words_text given (codes "log-level"))
  pub json : IsFlag given (codes "json") s.json
  pub follow : IsFlag given (codes "follow") s.follow
  pub follow_limit : IsNumber given (codes "follow-limit") s.follow_limit
  pub until_eof : IsFlag given (codes "until-eof") s.until_eof

-- it would remember requests in vain, or what is given is no address of a server, no number of octets that it may keep, or no blocks of addresses
abbrev pub IsRefused : (given : ArgMatches) → Type 0
IsRefused given =
    IsInVain given true
    ⊎ (IsHost (words_text given (codes "at")) None
    ⊎ ((memory_given (words_text given (codes "memory")) ≡ None) ⊎ ArePeers (words_text given (codes "peers")) None))
