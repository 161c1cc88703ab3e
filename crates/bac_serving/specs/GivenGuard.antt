-- What the words of `serve` give of the sources that it hears, and of how much it sends to one address.
use Rattle.std.specs.Prelude.{◌≡◌, ℕ, ◌*◌, ◌^◌, ◌-◌, min, nat_eq, false, not, List, codes, Option, Some, None, MatchOption, is_some, if◌then◌else◌}
use Rattle.std.specs.Str.{bytes_eq}
use Rattle.clap.specs.declared.parser.matches.ArgMatches.{ArgMatches}
use Rattle.bac_guard.specs.Sources.{LOCAL}
use Rattle.bac_guard.specs.Texts.{ANY_TEXT, AreSources, IsRefused}
use Rattle.bac_guard.specs.Views.{blocks_of}
use Rattle.bac_guard.specs.declared.fault.SourcesFault.{SourcesFault}
use Rattle.bac_guard.specs.declared.guard.Guard.{Guard}
use Rattle.bac_guard.specs.declared.sources.Sources.{Sources}
use Rattle.bac_environment.specs.Given.{IsNumber, words_text}

-- the text is not the word for all addresses, and one of its parts is no block, or there are too many
pub record AreNoPeers (text : List ℕ) : Type 0 where
  pub fault : SourcesFault
  pub refused : IsRefused text fault
  pub word : bytes_eq text ANY_TEXT ≡ false

-- the sources that a text says; local addresses where none is given
abbrev pub ArePeers : (text : Option (List ℕ)) → (sources : Option Sources) → Type 0
ArePeers None sources = MatchOption sources ⊥ (λ (s : Sources). blocks_of s ≡ LOCAL)
ArePeers (Some text) sources = MatchOption sources (AreNoPeers text) (λ (s : Sources). AreSources text (blocks_of s))

-- how many octets a second fill the budget of an address, by the number of KiB: 128 KiB where none is given, and no bound where it is 0
abbrev pub rate_by : (kibibytes : Option ℕ) → Option ℕ
rate_by None = Some 131072
rate_by (Some kibibytes) = if nat_eq kibibytes 0 then None else Some (min (kibibytes * 1024) (2 ^ 64 - 1))

-- what goes to the loopback is bounded only where a rate is given
pub record IsGuard (given : ArgMatches) (guard : Guard) : Type 0 where
  pub peers : ArePeers (words_text given (codes "peers")) (Some guard.sources)
  pub kibibytes : Option ℕ
  pub kibibytes_are : IsNumber given (codes "rate") kibibytes
  pub rate : guard.rate ≡ rate_by kibibytes
  pub spares : guard.spares_loopback ≡ not (is_some kibibytes)
