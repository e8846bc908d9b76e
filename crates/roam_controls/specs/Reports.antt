-- Reports: which function asks for which.
use Rattle.std.specs.Prelude.{ℕ, ◌==◌, if◌then◌else◌, List, Option, Some, None}
use Rattle.roam_controls.specs.declared.reports.Report.{Report}
use Rattle.roam_controls.specs.declared.reports.Report.TheVariants.{Status, CursorPosition, Printer, PrimaryAttributes, SecondaryAttributes}
use Rattle.roam_controls.specs.Parameters.{first}

-- DSR (ECMA-48, section 8.3.35)
abbrev pub status_report : ℕ → Option Report
status_report p =
    if p == 5 then Some Status
    else if p == 6 then Some CursorPosition
    else None

-- DSR, DA (ECMA-48, sections 8.3.35 and 8.3.24)
abbrev pub report_of : List ℕ → ℕ → Option Report
report_of params b =
    if b == 0x6E then status_report (first params)
    else if b == 0x63 then (if first params == 0 then Some PrimaryAttributes else None)
    else None

-- DSR of the printer (VT220), after the private marker ?
abbrev pub private_report : List ℕ → ℕ → Option Report
private_report params b = if b == 0x6E then (if first params == 15 then Some Printer else None) else None

-- DA of the second kind (VT220), after the private marker >
abbrev pub secondary_report : List ℕ → ℕ → Option Report
secondary_report params b = if b == 0x63 then (if first params == 0 then Some SecondaryAttributes else None) else None
