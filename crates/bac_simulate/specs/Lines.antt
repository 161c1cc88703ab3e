-- The lines of a script.
use Rattle.std.specs.Prelude.{ℕ, ◌+◌, ◌-◌, ◌*◌, ◌/◌, ◌%◌, nat_le, ◌&&◌, List, [], ◌∷◌, ◌++◌, drop, codes, if◌then◌else◌, Option, Some, None}
use Rattle.std.specs.Str.{bytes_eq}
use Rattle.bac_value.specs.Value.{ObjectId}
use Rattle.bac_service.specs.Values.{Request}
use Rattle.bac_value_text.specs.Numbers.{◌>>=◌, is_minus, number_of, number_up_to, octets_of, parts_at}
use Rattle.bac_value_text.specs.Reading.{object_of, property_of}
use Rattle.bac_simulate.specs.LineWords.{words_of}
use Rattle.bac_service_text.specs.Dispatch.{request_of}

-- ---- the first line: nodes N, or nodes N window W overtake V

-- how many nodes there are, the greatest window of each (in segments, clause 5.3), and how many later copies of its transaction may overtake one
pub record Setting : Type 0 where
  pub nodes : ℕ
  pub window : ℕ
  pub overtake : ℕ

abbrev pub not_none : ℕ → Option ℕ
not_none number = if nat_le 1 number then Some number else None

-- a number from 1 to that
abbrev pub number_from_one : (most : ℕ) → List ℕ → Option ℕ
number_from_one most word = number_up_to most word >>= not_none

-- few enough that no number of a segment is misread
abbrev pub bounded : Setting → Option Setting
bounded s = if nat_le (s.overtake + 2 * s.window) 255 then Some s else None

unfoldable pub setting_with : (nodes window overtake : List ℕ) → Option Setting
setting_with nodes window overtake = do
  nodes ← number_from_one 16 nodes
  window ← number_from_one 64 window
  overtake ← number_up_to 255 overtake
  bounded (record { nodes = nodes; window = window; overtake = overtake })

-- where the line names neither, windows are up to 32, and 128 later copies may overtake one
unfoldable pub usual_setting : (nodes : List ℕ) → Option Setting
usual_setting nodes = do
  nodes ← number_from_one 16 nodes
  Some (record { nodes = nodes; window = 32; overtake = 128 })

abbrev pub setting_of : List (List ℕ) → Option Setting
setting_of (a ∷ nodes ∷ []) = if bytes_eq a (codes "nodes") then usual_setting nodes else None
setting_of (a ∷ nodes ∷ b ∷ window ∷ c ∷ overtake ∷ []) =
    if bytes_eq a (codes "nodes") && (bytes_eq b (codes "window") && bytes_eq c (codes "overtake"))
    then setting_with nodes window overtake
    else None
setting_of words = None

-- what the first line sets
abbrev pub setting_at : List ℕ → Option Setting
setting_at line = setting_of (words_of line)

-- ---- words of strangers and clocks

-- four octets of an address of IPv4, in decimal with dots between them
unfoldable pub host_of : (word : List ℕ) → Option (List ℕ)
host_of word = do
  first ← parts_at 46 word
  second ← parts_at 46 first.1
  third ← parts_at 46 second.1
  a ← number_up_to 255 first.0
  b ← number_up_to 255 second.0
  c ← number_up_to 255 third.0
  d ← number_up_to 255 third.1
  Some (a ∷ b ∷ c ∷ d ∷ [])

-- a link: such an address, a colon, and a UDP port, of which the high octet stands first (clause J.1.2)
unfoldable pub link_of : (word : List ℕ) → Option (List ℕ)
link_of word = do
  parts ← parts_at 58 word
  host ← host_of parts.0
  port ← number_up_to 65535 parts.1
  Some (host ++ port / 256 ∷ port % 256 ∷ [])

-- a clock that is fast or slow by so many parts in a million, up to 1,000: so many parts it goes on while a million of real time pass
unfoldable pub fast_of : (digits : List ℕ) → Option ℕ
fast_of digits = do
  parts ← number_up_to 1000 digits
  Some (1000000 + parts)

unfoldable pub slow_of : (digits : List ℕ) → Option ℕ
slow_of digits = do
  number ← number_up_to 1000 digits
  parts ← not_none number
  Some (1000000 - parts)

-- slow where a minus stands before the number
abbrev pub rate_of : (word : List ℕ) → Option ℕ
rate_of word = if is_minus word then slow_of (drop 1 word) else fast_of word

-- ---- the lines after it: ask CLIENT SERVER REQUEST, ask CLIENT LINK REQUEST, deliver COPY, lose COPY, noise NODE HEX, stranger NODE LINK HEX, tick NODE,
-- ---- advance MILLISECONDS, clock NODE MILLISECONDS, pace NODE PARTS, set NODE OBJECT PROPERTY HEX, file NODE OBJECT HEX, restart NODE, begin NODE,
-- ---- begin again NODE

pub data Statement : Type 0 where
  Ask : (client server : ℕ) (request : Request) → Statement
  Deliver : (copy : ℕ) → Statement
  Lose : (copy : ℕ) → Statement
  Noise : (node : ℕ) (octets : List ℕ) → Statement
  Tick : (node : ℕ) → Statement
  Advance : (by : ℕ) → Statement
  SetProperty : (node : ℕ) (object : ObjectId) (property : ℕ) (octets : List ℕ) → Statement
  SetFile : (node : ℕ) (object : ObjectId) (octets : List ℕ) → Statement
  Restart : (node : ℕ) → Statement
  -- a node at which nothing happened begins, and another program begins where one was, with the store that is there
  Begin : (node : ℕ) → Statement
  BeginAgain : (node : ℕ) → Statement
  -- a node asks a stranger, and octets of a stranger come to a node
  AskStranger : (client : ℕ) (link : List ℕ) (request : Request) → Statement
  Stranger : (node : ℕ) (link octets : List ℕ) → Statement
  -- a node's clock begins at so many milliseconds, and goes on by so many parts while a million of real time pass
  Clock : (node start : ℕ) → Statement
  Pace : (node rate : ℕ) → Statement

unfoldable pub ask_node_of : (client server : List ℕ) → (request : List (List ℕ)) → Option Statement
ask_node_of client server request = do
  client ← number_of client
  server ← number_of server
  request ← request_of request
  Some (Ask client server request)

unfoldable pub ask_stranger_of : (client link : List ℕ) → (request : List (List ℕ)) → Option Statement
ask_stranger_of client link request = do
  client ← number_of client
  request ← request_of request
  Some (AskStranger client link request)

-- a stranger where the word is a link, and a node otherwise
abbrev pub ask_by : (link : Option (List ℕ)) → (client server : List ℕ) → (request : List (List ℕ)) → Option Statement
ask_by None client server request = ask_node_of client server request
ask_by (Some link) client server request = ask_stranger_of client link request

abbrev pub ask_of : (client server : List ℕ) → (request : List (List ℕ)) → Option Statement
ask_of client server request = ask_by (link_of server) client server request

unfoldable pub stranger_of : (node link octets : List ℕ) → Option Statement
stranger_of node link octets = do
  node ← number_of node
  link ← link_of link
  octets ← octets_of octets
  Some (Stranger node link octets)

-- a start of 32 bits
unfoldable pub clock_of : (node start : List ℕ) → Option Statement
clock_of node start = do
  node ← number_of node
  start ← number_up_to 4294967295 start
  Some (Clock node start)

unfoldable pub pace_of : (node parts : List ℕ) → Option Statement
pace_of node parts = do
  node ← number_of node
  rate ← rate_of parts
  Some (Pace node rate)

unfoldable pub noise_of : (node octets : List ℕ) → Option Statement
noise_of node octets = do
  node ← number_of node
  octets ← octets_of octets
  Some (Noise node octets)

-- other values of a property; any octets: whether they are values for it, says the node's store
unfoldable pub set_property_of : (node object property octets : List ℕ) → Option Statement
set_property_of node object property octets = do
  node ← number_of node
  object ← object_of object
  property ← property_of property
  octets ← octets_of octets
  Some (SetProperty node object property octets)

-- other octets of a file
unfoldable pub set_file_of : (node object octets : List ℕ) → Option Statement
set_file_of node object octets = do
  node ← number_of node
  object ← object_of object
  octets ← octets_of octets
  Some (SetFile node object octets)

-- octets that come to a node, or go into a file of its own store
abbrev pub with_octets : (word node place octets : List ℕ) → Option Statement
with_octets word node place octets =
    if bytes_eq word (codes "file") then set_file_of node place octets
    else (if bytes_eq word (codes "stranger") then stranger_of node place octets
    else None)

-- a change of a node's own store, or octets of a stranger, by the words after the object or the link
abbrev pub change_of : (word node object : List ℕ) → List (List ℕ) → Option Statement
change_of word node object [] = None
change_of word node object (octets ∷ []) = with_octets word node object octets
change_of word node object (property ∷ octets ∷ []) = if bytes_eq word (codes "set") then set_property_of node object property octets else None
change_of word node object (a ∷ b ∷ c ∷ words) = None

-- another program begins at a node
unfoldable pub again_of : (word node : List ℕ) → Option Statement
again_of word node = do
  n ← number_of node
  if bytes_eq word (codes "again") then Some (BeginAgain n) else None

-- a node, and one word more; or two words and a node
abbrev pub of_node : (word node more : List ℕ) → Option Statement
of_node word node more =
    if bytes_eq word (codes "noise") then noise_of node more
    else (if bytes_eq word (codes "clock") then clock_of node more
    else (if bytes_eq word (codes "pace") then pace_of node more
    else (if bytes_eq word (codes "begin") then again_of node more
    else None)))

-- a word and a number
unfoldable pub numbered : (word number : List ℕ) → Option Statement
numbered word number = do
  n ← number_of number
  if bytes_eq word (codes "deliver") then Some (Deliver n)
      else (if bytes_eq word (codes "tick") then Some (Tick n)
      else (if bytes_eq word (codes "advance") then Some (Advance n)
      else (if bytes_eq word (codes "lose") then Some (Lose n)
      else (if bytes_eq word (codes "restart") then Some (Restart n)
      else (if bytes_eq word (codes "begin") then Some (Begin n)
      else None)))))

abbrev pub statement_of : List (List ℕ) → Option Statement
statement_of (word ∷ number ∷ []) = numbered word number
statement_of (word ∷ a ∷ b ∷ []) = of_node word a b
statement_of (word ∷ a ∷ b ∷ c ∷ more) = if bytes_eq word (codes "ask") then ask_of a b (c ∷ more) else change_of word a b (c ∷ more)
statement_of words = None

-- what a later line says
abbrev pub statement_at : List ℕ → Option Statement
statement_at line = statement_of (words_of line)
