-- What the words of `ask` give, as they were read.
use Rattle.std.specs.Prelude.{◌≡◌, ℕ, Bool, true, false, List, codes, MatchOption, Option, Some, None}
use Rattle.clap.specs.declared.parser.matches.ArgMatches.{ArgMatches}
use Rattle.bac_ask_report.specs.declared.cell_text.CellText.{CellText}
use Rattle.bac_ask_report.specs.declared.cell_text.CellText.TheVariants as texts
use Rattle.bac_commands.specs.declared.online.output_format.OutputFormat.{OutputFormat}
use Rattle.bac_commands.specs.declared.online.output_format.Style.{Style}
use Rattle.bac_commands.specs.declared.online.output_format.Style.TheVariants as style
use Rattle.bac_driver.specs.Udp.{LOCAL_HOST}
use Rattle.bac_environment.specs.Addresses.{IsLink, IsRoute, link_of}
use Rattle.bac_npdu.specs.Peers.{PeerView, RouteView}
use Rattle.bac_environment.specs.Given.{IsFlag, IsNumber, words_text}
use Rattle.bac_asking.specs.Seconds.{AreSeconds}
use Rattle.bac_asking.specs.Timeouts.{IsTimeout}
use Rattle.bac_asking.specs.declared.asking.Asking.{Asking}
use Rattle.bac_asking.specs.declared.asking.Rounds.{Rounds}
use Rattle.bac_asking.specs.declared.recording.RecordForm.{RecordForm}
use Rattle.bac_asking.specs.declared.recording.RecordForm.TheVariants as form

-- by octets before words
abbrev pub style_by : (raw text : Bool) → Style
style_by true text = style.Octets
style_by false true = style.Words
style_by false false = style.Numbers

pub record IsStyle (given : ArgMatches) (s : Style) : Type 0 where
  pub raw : Bool
  pub text : Bool
  pub raw_is : IsFlag given (codes "raw") raw
  pub text_is : IsFlag given (codes "text") text
  pub is : s ≡ style_by raw text

pub record IsOutputFormat (given : ArgMatches) (m : OutputFormat) : Type 0 where
  pub style : IsStyle given m.style
  pub strict : IsFlag given (codes "fail") m.strict

abbrev pub cell_text_by : (raw : Bool) → CellText
cell_text_by true = texts.Raw
cell_text_by false = texts.Shielded

abbrev pub records_by : (json csv raw : Bool) → Option RecordForm
records_by true csv raw = Some form.Json
records_by false true raw = Some (form.Csv (cell_text_by raw))
records_by false false raw = None

pub record AreRecordsOf (given : ArgMatches) (records : Option RecordForm) : Type 0 where
  pub json : Bool
  pub csv : Bool
  pub raw : Bool
  pub json_is : IsFlag given (codes "json") json
  pub csv_is : IsFlag given (codes "csv") csv
  pub raw_is : IsFlag given (codes "raw-text") raw
  pub are : records ≡ records_by json csv raw

-- a text is that time, or none; without a text there is none
abbrev pub IsReadBy : (Is : (text : List ℕ) → (milliseconds : ℕ) → Type 0) → (text : Option (List ℕ)) → (is : Option ℕ) → Type 0
IsReadBy Is None is = is ≡ None
IsReadBy Is (Some text) is = MatchOption is ((milliseconds : ℕ) → Is text milliseconds → ⊥) (Is text)

-- the milliseconds between rounds
abbrev pub IsPace : ArgMatches → (is : Option ℕ) → Type 0
IsPace given is = IsReadBy AreSeconds (words_text given (codes "every")) is

-- the milliseconds that it waits
abbrev pub IsPatience : ArgMatches → (is : Option ℕ) → Type 0
IsPatience given is = IsReadBy IsTimeout (words_text given (codes "timeout")) is

abbrev pub rounds_by : (every times : Option ℕ) → Option Rounds
rounds_by None times = None
rounds_by (Some every) times = Some (record { every = every; times = times })

pub record AreRoundsOf (given : ArgMatches) (rounds : Option Rounds) : Type 0 where
  pub every : Option ℕ
  pub times : Option ℕ
  pub every_is : IsPace given every
  pub times_is : IsNumber given (codes "times") times
  pub are : rounds ≡ rounds_by every times

-- how it is printed, or as which records, how long it waits, and how often and how many at once it asks
pub record IsGiven (given : ArgMatches) (asking : Asking) : Type 0 where
  pub output_format : IsOutputFormat given asking.output_format
  pub records : AreRecordsOf given asking.records
  pub timeout : IsPatience given asking.timeout
  pub rounds : AreRoundsOf given asking.rounds
  pub window : IsNumber given (codes "window") asking.window
  pub unnamed : asking.has_names ≡ false

-- ---- how it prints

abbrev pub is_octets : Style → Bool
is_octets style.Octets = true
is_octets style.Words = false
is_octets style.Numbers = false

abbrev pub is_raw_by : Option RecordForm → Style → Bool
is_raw_by None s = is_octets s
is_raw_by (Some form.Json) s = false
is_raw_by (Some (form.Csv texts.Raw)) s = true
is_raw_by (Some (form.Csv texts.Shielded)) s = false

-- what it prints is wanted as it came
abbrev pub is_raw : Asking → Bool
is_raw asking = is_raw_by asking.records asking.output_format.style

abbrev pub is_json_by : Option RecordForm → Bool
is_json_by None = false
is_json_by (Some form.Json) = true
is_json_by (Some (form.Csv t)) = false

-- objects of JSON
abbrev pub is_json : Asking → Bool
is_json asking = is_json_by asking.records

-- ---- which node is asked

-- that number, or where there is none, that port
abbrev pub port_by : (number own : Option ℕ) → Option ℕ
port_by None own = own
port_by (Some number) own = Some number

-- the port behind `--port`, or where none is given, that one
pub record IsPortGiven (given : ArgMatches) (own : Option ℕ) (port : ℕ) : Type 0 where
  pub number : Option ℕ
  pub number_is : IsNumber given (codes "port") number
  pub is : port_by number own ≡ Some port

-- a port of this machine
pub record IsPortHere (given : ArgMatches) (own : Option ℕ) (link : List ℕ) : Type 0 where
  pub port : ℕ
  pub given_so : IsPortGiven given own port
  pub is : link ≡ link_of LOCAL_HOST port

-- the text behind `--to` is the address of this link; without one it is that of a port of this machine
pub record IsLinkGiven (given : ArgMatches) (own : Option ℕ) (link : List ℕ) : Type 0 where
  pub told : (text : List ℕ) → words_text given (codes "to") ≡ Some text → IsLink text link
  pub here : words_text given (codes "to") ≡ None → IsPortHere given own link

-- a text is this way on; without one there is none
abbrev pub IsRouteBy : (text : Option (List ℕ)) → Option RouteView → Type 0
IsRouteBy None route = route ≡ None
IsRouteBy (Some text) None = ⊥
IsRouteBy (Some text) (Some r) = IsRoute text r

-- the peer at that link, by the way behind `--route`; where neither `--to` nor `--port` is given, on this machine at that port
pub record IsPeerGiven (given : ArgMatches) (own : Option ℕ) (p : PeerView) : Type 0 where
  pub link : IsLinkGiven given own p.link
  pub route : IsRouteBy (words_text given (codes "route")) p.route
