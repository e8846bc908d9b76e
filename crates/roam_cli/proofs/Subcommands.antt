-- The options of a subcommand give the request of the words.
use Rattle.std.proofs.Common.{◌≡◌, ℕ, List, Some, sym, ap, ◌∙◌}
use Rattle.std.specs.Prelude.{Result, Ok, Err, IfOk, codes, option_map}
use Rattle.clap.specs.Matches.{found_of, subcommand_name_of}
use Rattle.clap.specs.Simple.{subcommand_rows_of}
use Rattle.clap.specs.Walk.{rows_of}
use Rattle.clap.specs.declared.parser.matches.ArgMatches.{ArgMatches}
use Rattle.roam_cli.specs.declared.words.Refusal.{Refusal}
use Rattle.roam_cli.specs.declared.words.Request.{Request}
use Rattle.roam_cli.specs.declared.words.Request.TheVariants as request
use Rattle.roam_cli.specs.Requests.{Asks, IsAttach, IsRows, IsServe, IsShow, IsUsed}

pub used : (m inner : ArgMatches) (name text : List ℕ) → Some name ≡ subcommand_name_of m
    → Some (rows_of (found_of inner)) ≡ option_map (λ p. p.1) (subcommand_rows_of m) → name ≡ text → IsUsed m text (found_of inner)
used m inner name text named rows is =
    record { name_is = sym named ∙ ap (λ (n : List ℕ). Some n) is; rows_are = sym rows }

pub show_asked : (m inner : ArgMatches) (r : Result Request Refusal) → IsUsed m (codes "show") (found_of inner)
    → IfOk r (IsShow (found_of inner)) → IfOk r (Asks m)
show_asked m inner (Err e) used h = tt
show_asked m inner (Ok (request.Show rows cols)) used h = (found_of inner, used, h)
show_asked m inner (Ok (request.Rows normalize)) used h = absurd h
show_asked m inner (Ok request.World) used h = absurd h
show_asked m inner (Ok (request.Serve folder port session turns normalize)) used h = absurd h
show_asked m inner (Ok (request.Attach server session client source wire watches turns)) used h = absurd h

pub serve_asked : (m inner : ArgMatches) (r : Result Request Refusal) → IsUsed m (codes "serve") (found_of inner)
    → IfOk r (IsServe (found_of inner)) → IfOk r (Asks m)
serve_asked m inner (Err e) used h = tt
serve_asked m inner (Ok (request.Show rows cols)) used h = absurd h
serve_asked m inner (Ok (request.Rows normalize)) used h = absurd h
serve_asked m inner (Ok request.World) used h = absurd h
serve_asked m inner (Ok (request.Serve folder port session turns normalize)) used h = (found_of inner, used, h)
serve_asked m inner (Ok (request.Attach server session client source wire watches turns)) used h = absurd h

pub attach_asked : (m inner : ArgMatches) (r : Result Request Refusal) → IsUsed m (codes "attach") (found_of inner)
    → IfOk r (IsAttach (found_of inner)) → IfOk r (Asks m)
attach_asked m inner (Err e) used h = tt
attach_asked m inner (Ok (request.Show rows cols)) used h = absurd h
attach_asked m inner (Ok (request.Rows normalize)) used h = absurd h
attach_asked m inner (Ok request.World) used h = absurd h
attach_asked m inner (Ok (request.Serve folder port session turns normalize)) used h = absurd h
attach_asked m inner (Ok (request.Attach server session client source wire watches turns)) used h = (found_of inner, used, h)

pub rows_asked : (m inner : ArgMatches) (r : Request) → IsUsed m (codes "rows") (found_of inner) → IsRows (found_of inner) r → Asks m r
rows_asked m inner (request.Rows normalize) used h = (found_of inner, used, h)
rows_asked m inner (request.Show rows cols) used h = absurd h
rows_asked m inner request.World used h = absurd h
rows_asked m inner (request.Serve folder port session turns normalize) used h = absurd h
rows_asked m inner (request.Attach server session client source wire watches turns) used h = absurd h
