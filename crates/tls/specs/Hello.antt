-- What a ClientHello asks for. The relations take the format of an extension, and the byte order of
-- a list of extensions.
use Rattle.std.specs.List.{All}
use Rattle.std.specs.Prelude.{◌≡◌, ℕ, List, length}
use Rattle.scroll.specs.declared.endian.Endian.{Endian}
use Rattle.scroll.specs.declared.error.Error.{Error}
use Rattle.scroll_layouts.specs.Formats.{Format, reads}
use Rattle.scroll_layouts.specs.Lists.{Items}
use Rattle.tls.specs.declared.hello.Extension.{Extension}
use Rattle.tls.specs.declared.hello.ExtensionBody.TheVariants.{Server}
use Rattle.tls.specs.declared.hello.ServerNames.{ServerNames}

-- an extension has the name of a server (RFC 6066, section 3)
pub record HasServer (extension : Extension) (name : List ℕ) : Type 0 where
  pub names : ServerNames
  pub body : extension.body ≡ Server names
  pub host : names.host.name.now ≡ name

-- an extension has no name of a server
abbrev pub HasNoServer : Extension → Type 0
HasNoServer extension = (name : List ℕ) → HasServer extension name → ⊥

-- the first extension of a list that has the name of a server has this name: the extensions before
-- it have none
pub record FirstServer (format : Format Error Extension) (order : Endian) (list name : List ℕ)
    : Type 0 where
  pub before : List Extension
  pub at : ℕ
  pub each : Items format order list 0 before at
  pub none : All HasNoServer before
  pub extension : Extension
  pub stands : reads format order list at extension
  pub server : HasServer extension name

-- a list is these extensions up to its end, and none of them has the name of a server
pub record NoServer (format : Format Error Extension) (order : Endian) (list : List ℕ)
    : Type 0 where
  pub extensions : List Extension
  pub each : Items format order list 0 extensions (length list)
  pub none : All HasNoServer extensions
