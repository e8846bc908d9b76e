-- The versions of the format (this project's profile).
use Rattle.std.specs.Prelude.{ℕ, Option, Some, None, ◌==◌, if◌then◌else◌}
use Rattle.roam_wire.specs.declared.versions.Version.{Version}
use Rattle.roam_wire.specs.declared.versions.Version.TheVariants.{One, Two}

-- the byte of a version
abbrev pub number_of_version : Version → ℕ
number_of_version One = 1
number_of_version Two = 2

-- the version of a byte
abbrev pub version_numbered : ℕ → Option Version
version_numbered n = if n == 1 then Some One else if n == 2 then Some Two else None

-- so many fragments a datagram's instruction has at most
abbrev pub most_fragments : Version → ℕ
most_fragments One = 1024
most_fragments Two = 4096

-- so many bytes a text has at most that is cut: 1,200 a fragment
abbrev pub most_bytes : Version → ℕ
most_bytes One = 1228800
most_bytes Two = 4915200
