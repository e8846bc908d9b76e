-- Whose folder it is.
use Rattle.std.specs.Prelude.{◌≡◌, ℕ, bit_and, Bool, true}
use Rattle.std.specs.Fs.{IsDir}
use Rattle.std.specs.declared.fs.FileType.{FileType}

-- the permissions of a folder that concern others than its owner: to read it, to change it and to enter it
abbrev pub of_others : ℕ
of_others = 0x3F

-- The folder is fit for a server's sockets: a folder of the user's own. If it has to be private, nobody else has any permission.
pub record MayHold (kind : FileType) (owner own mode : ℕ) (is_alone : Bool) : Type 0 where
  pub folder : IsDir kind
  pub own_folder : owner ≡ own
  pub alone : is_alone ≡ true → bit_and mode of_others ≡ 0
