-- The two ends of a link of screens, in the version of their instance, with one form for their states.
use Rattle.roam_screens.specs.Screenshot.{Screenshot}
use Rattle.roam_sync.specs.Senders.{Sending}
use Rattle.roam_sync.specs.Receivers.{Receiving}
use Rattle.roam_wire.specs.declared.versions.Version.{Version}
use Rattle.roam_wire.specs.declared.versions.Version.TheVariants as version
use Rattle.roam_hub.specs.declared.ends.AnySender.{AnySender}
use Rattle.roam_hub.specs.declared.ends.AnySender.TheVariants as sender
use Rattle.roam_hub.specs.declared.ends.AnyReceiver.{AnyReceiver}
use Rattle.roam_hub.specs.declared.ends.AnyReceiver.TheVariants as receiver

-- the version of a sender, and its states
abbrev pub version_of : AnySender → Version
version_of (sender.One s) = version.One
version_of (sender.Two s) = version.Two

abbrev pub sending_of : AnySender → Sending Screenshot
sending_of (sender.One s) = s
sending_of (sender.Two s) = s

-- the version of a receiver, and its states
abbrev pub version_in : AnyReceiver → Version
version_in (receiver.One r) = version.One
version_in (receiver.Two r) = version.Two

abbrev pub receiving_in : AnyReceiver → Receiving Screenshot
receiving_in (receiver.One r) = r
receiving_in (receiver.Two r) = r
