-- The request of the words, given the matches of `clap`.
use Rattle.std.specs.Prelude.{◌≡◌, ◌-◌, ◌==◌, ◌^◌, ◌<◌, ℕ, Bool, true, false, List, Option, Some, None, MatchOption, option_map, unwrap_or, if◌then◌else◌, codes}
use Rattle.std.specs.Option.{SomeIff}
use Rattle.std.specs.Str.Parse.{IsNumeral, digits_value, without_leading_plus}
use Rattle.clap.specs.Matches.{first_value, one_text, subcommand_name_of}
use Rattle.clap.specs.Simple.{subcommand_rows_of}
use Rattle.clap.specs.Walk.{rows_of}
use Rattle.clap.specs.declared.parser.matches.ArgMatches.{ArgMatches}
use Rattle.clap.specs.declared.parser.matches.Found.{Found}
use Rattle.roam_tokens.specs.Numbers.{id_in}
use Rattle.roam_cli.specs.declared.words.Request.{Request}
use Rattle.roam_cli.specs.declared.words.Request.TheVariants as request
use Rattle.roam_cli.specs.declared.words.Server.{Server}
use Rattle.roam_cli.specs.declared.words.Server.TheVariants as server
use Rattle.roam_cli.specs.declared.words.Source.{Source}
use Rattle.roam_cli.specs.declared.words.Source.TheVariants as source
use Rattle.roam_cli.specs.declared.words.Wire.{Wire}
use Rattle.roam_cli.specs.declared.words.Wire.TheVariants.{One, Two}

-- ---- one option

-- the id of an option, if it is given, as the word writes it
abbrev pub IsIdOf : Found → List ℕ → Option ℕ → Type 0
IsIdOf found name id = option_map id_in (first_value found name) ≡ option_map Some id

-- the number of so many bits that a text writes in decimals
abbrev pub IsNumberIn : ℕ → List ℕ → Option ℕ → Type 0
IsNumberIn bits text number =
    let digits = without_leading_plus text in
    SomeIff number (IsNumeral 10 digits × (digits_value 10 digits < 2 ^ bits)) (digits_value 10 digits)

-- the number of an option, if it is given
abbrev pub IsNumberOf : ℕ → Found → List ℕ → Option ℕ → Type 0
IsNumberOf bits found name number = MatchOption (one_text found name) (number ≡ None) (λ text. IsNumberIn bits text number)

-- the default number of turns: as many as can be counted
abbrev pub most_turns : ℕ
most_turns = 2 ^ 64 - 1

abbrev pub IsTurnsOf : Found → ℕ → Type 0
IsTurnsOf found turns =
    (number : Option ℕ) × IsNumberOf 64 found (codes "turns") number × (turns ≡ unwrap_or number most_turns)

-- the first version if it is asked for, else the second
abbrev pub version_of : Option ℕ → Wire
version_of None = Two
version_of (Some number) = if number == 1 then One else Two

abbrev pub IsWireOf : Found → Wire → Type 0
IsWireOf found wire = (number : Option ℕ) × IsNumberOf 16 found (codes "wire") number × (wire ≡ version_of number)

-- a flag: it is there, or it isn't
pub record IsFlagOf (found : Found) (name : List ℕ) (flag : Bool) : Type 0 where
  pub none : one_text found name ≡ None → flag ≡ false
  pub given : one_text found name ≡ Some (codes "true") → flag ≡ true
  pub other : one_text found name ≡ Some (codes "false") → flag ≡ false

-- ---- the server, and the source of acts

abbrev pub IsServerOf : Found → Server → Type 0
IsServerOf found (server.Folder path) = first_value found (codes "dir") ≡ Some path.now
IsServerOf found (server.Port port) = (first_value found (codes "dir") ≡ None) × IsNumberOf 16 found (codes "port") (Some port)

abbrev pub IsSourceOf : Found → Source → Type 0
IsSourceOf found (source.Terminals socket) = first_value found (codes "terminals") ≡ Some socket.now
IsSourceOf found (source.Acts socket) =
    (first_value found (codes "terminals") ≡ None) × (first_value found (codes "acts") ≡ Some socket.now)
IsSourceOf found (source.Keys path) =
    (first_value found (codes "terminals") ≡ None) × (first_value found (codes "acts") ≡ None)
    × (first_value found (codes "keys") ≡ Some path.now)
IsSourceOf found source.Nothing =
    (first_value found (codes "terminals") ≡ None) × (first_value found (codes "acts") ≡ None)
    × (first_value found (codes "keys") ≡ None)

-- ---- a subcommand with its options

abbrev pub IsShow : Found → Request → Type 0
IsShow found (request.Show rows cols) =
    IsNumberOf 16 found (codes "rows") (Some rows) × IsNumberOf 16 found (codes "cols") (Some cols)
IsShow found other = ⊥

abbrev pub IsRows : Found → Request → Type 0
IsRows found (request.Rows normalize) = IsFlagOf found (codes "normalize") normalize
IsRows found other = ⊥

abbrev pub IsServe : Found → Request → Type 0
IsServe found (request.Serve folder port session turns normalize) =
    (first_value found (codes "dir") ≡ Some folder.now) × IsNumberOf 16 found (codes "port") port × IsIdOf found (codes "session") session
    × IsTurnsOf found turns × IsFlagOf found (codes "normalize") normalize
IsServe found other = ⊥

abbrev pub IsAttach : Found → Request → Type 0
IsAttach found (request.Attach server session client source wire watches turns) =
    IsServerOf found server × IsIdOf found (codes "session") session × IsIdOf found (codes "client") client × IsSourceOf found source
    × IsWireOf found wire × IsFlagOf found (codes "watch") watches × IsTurnsOf found turns
IsAttach found other = ⊥

-- this subcommand was used, and this was found behind it
pub record IsUsed (m : ArgMatches) (name : List ℕ) (found : Found) : Type 0 where
  pub name_is : subcommand_name_of m ≡ Some name
  pub rows_are : option_map (λ p. p.1) (subcommand_rows_of m) ≡ Some (rows_of found)

-- the words that were matched ask for this
abbrev pub Asks : ArgMatches → Request → Type 0
Asks m (request.Show rows cols) = (found : Found) × IsUsed m (codes "show") found × IsShow found (request.Show rows cols)
Asks m (request.Rows normalize) = (found : Found) × IsUsed m (codes "rows") found × IsRows found (request.Rows normalize)
Asks m request.World = subcommand_name_of m ≡ Some (codes "world")
Asks m (request.Serve folder port session turns normalize) =
    (found : Found) × IsUsed m (codes "serve") found × IsServe found (request.Serve folder port session turns normalize)
Asks m (request.Attach server session client source wire watches turns) =
    (found : Found) × IsUsed m (codes "attach") found
    × IsAttach found (request.Attach server session client source wire watches turns)
