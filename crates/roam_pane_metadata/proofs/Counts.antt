-- News is counted, however much is read.
use Rattle.std.proofs.Common.{◌≡◌, ◌≤◌, ℕ, ◌∙◌, arith, sym}
use Rattle.roam_pane_metadata.specs.Texts.{Said}
use Rattle.roam_pane_metadata.specs.Emissions.{IsCounted}

-- a number between two equal ones
between : (a b c : ℕ) → a ≤ b → b ≤ c → c ≡ a → b ≡ a
between a b c low high same = omega (arith, low, high, same)

pub counted-on : (a b c : Said) → IsCounted a b → IsCounted b c → IsCounted a c
counted-on a b c first later =
    let titles = first.titles in
    let more_titles = later.titles in
    let clips = first.clips in
    let more_clips = later.clips in
    record {
      titles = omega (arith, titles, more_titles);
      title = λ e few.
          let mid = between a.titles b.titles c.titles titles more_titles e in
          later.title (e ∙ sym mid) few ∙ first.title mid (omega (arith, mid, e, few));
      clips = omega (arith, clips, more_clips);
      clip = λ e few.
          let mid = between a.clips b.clips c.clips clips more_clips e in
          later.clip (e ∙ sym mid) few ∙ first.clip mid (omega (arith, mid, e, few));
    }
