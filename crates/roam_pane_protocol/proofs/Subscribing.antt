-- A reader of the lines knows the list, and each line is news.
use Rattle.std.proofs.Common.{◌≡◌, ℕ, zero, suc, ◌-◌, ◌<◌, ◌≤◌, inl, inr, Bool, true, false, ◌&&◌, cond, eqb, List, [], ◌∷◌, ◌++◌, Option, Some, None, refl, sym, ap, ◌∙◌, subst, arith}
use Rattle.std.specs.Prelude.{◌≢◌, IsSome, IfSome}
use Rattle.std.specs.List.{fold}
use Rattle.std.proofs.lemmas.Bool.{cases_eq, ne_eqb, eqb-true, eq-eqb, false≢true, and_parts}
use Rattle.std.proofs.lemmas.List.Sums.{fold-append}
use Rattle.std.proofs.lemmas.Grind.{flat_map-append}
use Rattle.roam_pane_protocol.specs.declared.pane_list.ListedPane.{ListedPane}
use Rattle.roam_pane_protocol.specs.declared.pane_list.PaneList.{PaneList}
use Rattle.roam_pane_protocol.specs.Known.{pane_at, is_same}
use Rattle.roam_pane_protocol.specs.Lines.{Line, Here, Gone, Focus, Clients, Watchers, line_text, lines_text, lines_for, lines_to, lines_of_focus, count_to_tell, line_of_count, lines_of_counts, Known, knows, after, AreNews, Agrees, LinesArrive, LinesAreNews}

same_is : (a b : ListedPane) → is_same a b ≡ true → a ≡ b
same_is a b e =
    let generation = and_parts (eqb a.generation b.generation) _ e in
    let row = and_parts (eqb a.row b.row) _ generation.1 in
    let col = and_parts (eqb a.col b.col) _ row.1 in
    let size = and_parts (eqb a.rows b.rows) (eqb a.cols b.cols) col.1 in
    λ i. record {
      generation = eqb-true _ _ generation.0 i;
      row = eqb-true _ _ row.0 i;
      col = eqb-true _ _ col.0 i;
      rows = eqb-true _ _ size.0 i;
      cols = eqb-true _ _ size.1 i;
    }

-- a subscriber knows the same of all but the panes
record SameRest (k m : Known) : Type 0 where
  focus : m.focus ≡ k.focus
  clients : m.clients ≡ k.clients
  watchers : m.watchers ≡ k.watchers

same_rest : (k : Known) → SameRest k k
same_rest k = record { focus = refl; clients = refl; watchers = refl }

rest_on : (k l m : Known) → SameRest k l → SameRest l m → SameRest k m
rest_on k l m one more = record {
  focus = more.focus ∙ one.focus;
  clients = more.clients ∙ one.clients;
  watchers = more.watchers ∙ one.watchers;
}

-- a subscriber knows this of a number, and of any other, and of all else, what he knew
record Learns (q : ℕ) (o : Option ListedPane) (k m : Known) : Type 0 where
  pane : m.pane q ≡ o
  others : (p : ℕ) → (p ≡ q → ⊥) → m.pane p ≡ k.pane p
  rest : SameRest k m

here : (q : ℕ) (x : ListedPane) (k : Known) → Learns q (Some x) k (after k (Here q x))
here q x k = record {
  pane = ap (λ b. cond b (Some x) (k.pane q)) (eq-eqb q q refl);
  others = λ p apart. ap (λ b. cond b (Some x) (k.pane p)) (ne_eqb p q apart);
  rest = record { focus = refl; clients = refl; watchers = refl };
}

gone : (q : ℕ) (k : Known) → Learns q None k (after k (Gone q))
gone q k = record {
  pane = ap (λ b. cond b None (k.pane q)) (eq-eqb q q refl);
  others = λ p apart. ap (λ b. cond b None (k.pane p)) (ne_eqb p q apart);
  rest = record { focus = refl; clients = refl; watchers = refl };
}

-- ---- one pane

learned_by : (is_one generations : Bool) (q : ℕ) (x y : ListedPane) (k : Known) → k.pane q ≡ Some x → is_same x y ≡ is_one
    → Learns q (Some y) k (fold after k (cond is_one [] (cond generations (Here q y ∷ []) (Gone q ∷ Here q y ∷ []))))
learned_by true generations q x y k e same = record {
  pane = e ∙ ap (λ (pane : ListedPane). Some pane) (same_is x y same);
  others = λ p apart. refl;
  rest = same_rest k;
}
learned_by false true q x y k e same = here q y k
learned_by false false q x y k e same =
    let first = gone q k in
    let then = here q y (after k (Gone q)) in
    record {
      pane = then.pane;
      others = λ p apart. then.others p apart ∙ first.others p apart;
      rest = record { focus = refl; clients = refl; watchers = refl };
    }

learned : (q : ℕ) (x y : Option ListedPane) (k : Known) → k.pane q ≡ x → Learns q y k (fold after k (lines_for q x y))
learned q None None k e = record { pane = e; others = λ p apart. refl; rest = same_rest k }
learned q None (Some y) k e = here q y k
learned q (Some x) None k e = gone q k
learned q (Some x) (Some y) k e = learned_by (is_same x y) (eqb x.generation y.generation) q x y k e refl

abbrev same_as : ListedPane → Option ListedPane → Bool
same_as x None = false
same_as x (Some y) = is_same x y

same_self : (x : ListedPane) → is_same x x ≡ true
same_self x =
    let row = eq-eqb x.row x.row refl in
    let col = eq-eqb x.col x.col refl in
    let rows = eq-eqb x.rows x.rows refl in
    let cols = eq-eqb x.cols x.cols refl in
    λ i. eq-eqb x.generation x.generation refl i && (row i && (col i && (rows i && cols i)))

-- one that is known isn't one that differs
differs : (x y : ListedPane) (o : Option ListedPane) → o ≡ Some x → is_same x y ≡ false → o ≢ Some y
differs x y o e apart h = false≢true (sym apart ∙ ap (same_as x) (sym h ∙ e) ∙ same_self x)

-- a pane is new if none is known
unknown : (y : ListedPane) (o : Option ListedPane) → o ≡ None → o ≢ Some y
unknown y o e h = false≢true (ap (same_as y) (sym e ∙ h) ∙ same_self y)

is_there : (x : ListedPane) (o : Option ListedPane) → o ≡ Some x → IsSome o
is_there x o e = subst (λ (o : Option ListedPane). IsSome o) (sym e) refl

news_by : (is_one generations : Bool) (q : ℕ) (x y : ListedPane) (k : Known) → k.pane q ≡ Some x → is_same x y ≡ is_one
    → AreNews k (cond is_one [] (cond generations (Here q y ∷ []) (Gone q ∷ Here q y ∷ [])))
news_by true generations q x y k e same = tt
news_by false true q x y k e same = (differs x y (k.pane q) e same, tt)
news_by false false q x y k e same =
    (is_there x (k.pane q) e, (unknown y ((after k (Gone q)).pane q) (gone q k).pane, tt))

news : (q : ℕ) (x y : Option ListedPane) (k : Known) → k.pane q ≡ x → AreNews k (lines_for q x y)
news q None None k e = tt
news q None (Some y) k e = (unknown y (k.pane q) e, tt)
news q (Some x) None k e = (is_there x (k.pane q) e, tt)
news q (Some x) (Some y) k e = news_by (is_same x y) (eqb x.generation y.generation) q x y k e refl

news_both : (xs ys : List Line) (k : Known) → AreNews k xs → AreNews (fold after k xs) ys → AreNews k (xs ++ ys)
news_both [] ys k h more = more
news_both (x ∷ xs) ys k h more = (h.0, news_both xs ys (after k x) h.1 more)

-- ---- the panes up to a number

record Reaches (told now : ℕ → Option ListedPane) (first : Known) (n : ℕ) (k : Known) : Type 0 where
  low : (p : ℕ) → 1 ≤ p → p ≤ n → k.pane p ≡ now p
  high : (p : ℕ) → n < p → k.pane p ≡ told p
  rest : SameRest first k

module _ (told now : ℕ → Option ListedPane) (first : Known) (begins : (p : ℕ) → first.pane p ≡ told p) where
  reaches : (n : ℕ) → Reaches told now first n (fold after first (lines_to n told now))
  unfolding lines_to
  reaches zero = record { low = λ p one none. absurd (omega (arith, one, none)); high = λ p h. begins p; rest = same_rest first }
  reaches (suc n) =
      let was = reaches n in
      let q = suc n in
      let k = fold after first (lines_to n told now) in
      let step = learned q (told q) (now q) k (was.high q (omega arith)) in
      subst (Reaches told now first q) (sym (fold-append after first (lines_to n told now) (lines_for q (told q) (now q))))
      (record {
        low = λ p one le.
            elim (cases_eq p q) [
              | inl same ↦ subst (λ (j : ℕ). (fold after k (lines_for q (told q) (now q))).pane j ≡ now j) (sym same) step.pane
              | inr apart ↦ step.others p apart ∙ was.low p one (omega (arith, le, apart))
            ];
        high = λ p h. step.others p (λ same. omega (arith, h, same)) ∙ was.high p (omega (arith, h));
        rest = rest_on first k (fold after k (lines_for q (told q) (now q))) was.rest step.rest;
      })

  all_news : (n : ℕ) → AreNews first (lines_to n told now)
  unfolding lines_to
  all_news zero = tt
  all_news (suc n) =
      let q = suc n in
      news_both (lines_to n told now) (lines_for q (told q) (now q)) first (all_news n)
      (news q (told q) (now q) (fold after first (lines_to n told now)) ((reaches n).high q (omega arith)))

-- ---- the focus

-- a subscriber knows this focus, and of all else what he knew
record Focuses (p : ℕ) (k m : Known) : Type 0 where
  focus : m.focus ≡ p
  pane : (q : ℕ) → m.pane q ≡ k.pane q
  clients : m.clients ≡ k.clients
  watchers : m.watchers ≡ k.watchers

focus_known : (b : Bool) (k : Known) (x y : ℕ) → k.focus ≡ x → eqb x y ≡ b → Focuses y k (fold after k (cond b [] (Focus y ∷ [])))
focus_known true k x y e same = record { focus = e ∙ eqb-true x y same; pane = λ q. refl; clients = refl; watchers = refl }
focus_known false k x y e same = record { focus = refl; pane = λ q. refl; clients = refl; watchers = refl }

focus_news : (b : Bool) (k : Known) (x y : ℕ) → k.focus ≡ x → eqb x y ≡ b → AreNews k (cond b [] (Focus y ∷ []))
focus_news true k x y e same = tt
focus_news false k x y e apart = ((λ h. false≢true (sym apart ∙ eq-eqb x y (sym e ∙ h))), tt)

-- ---- how many client instances there are

-- a reader that knew this number, and reads another one if there is one, knows it
count_known : (b : Bool) (told now : ℕ) → eqb told now ≡ b → (known : Option ℕ) → known ≡ Some told
    → (then : Option ℕ → Option ℕ) → ((n : ℕ) → then (Some n) ≡ Some n) → then None ≡ known → then (cond b None (Some now)) ≡ Some now
count_known true told now same known e then some none = none ∙ e ∙ ap (λ (n : ℕ). Some n) (eqb-true told now same)
count_known false told now apart known e then some none = some now

count_arrives : (told now known : Option ℕ) → known ≡ told → (then : Option ℕ → Option ℕ) → ((n : ℕ) → then (Some n) ≡ Some n)
    → then None ≡ known → IfSome now (λ n. then (count_to_tell told now) ≡ Some n)
count_arrives told None known e then some none = tt
count_arrives None (Some now) known e then some none = some now
count_arrives (Some told) (Some now) known e then some none = count_known (eqb told now) told now refl known e then some none

-- a number that is sent was unknown
count_news_by : (b : Bool) (told now : ℕ) → eqb told now ≡ b → (known : Option ℕ) → known ≡ Some told
    → IfSome (cond b None (Some now)) (λ n. known ≢ Some n)
count_news_by true told now same known e = tt
count_news_by false told now apart known e = λ h. let one : Some told ≡ Some now = sym e ∙ h in false≢true (sym apart ∙ eq-eqb told now cc)

count_news : (told now known : Option ℕ) → known ≡ told → IfSome (count_to_tell told now) (λ n. known ≢ Some n)
count_news told None known e = tt
count_news None (Some now) known e = λ h. let other : None ≡ Some now = sym e ∙ h in absurd cc
count_news (Some told) (Some now) known e = count_news_by (eqb told now) told now refl known e

clients_told : (o : Option ℕ) (k : Known) → IfSome o (λ n. k.clients ≢ Some n) → AreNews k (line_of_count Clients o)
clients_told None k h = tt
clients_told (Some n) k h = (h, tt)

watchers_told : (o : Option ℕ) (k : Known) → IfSome o (λ n. k.watchers ≢ Some n) → AreNews k (line_of_count Watchers o)
watchers_told None k h = tt
watchers_told (Some n) k h = (h, tt)

-- a number of instances leaves all other knowledge of a subscriber
record Counts (k m : Known) : Type 0 where
  focus : m.focus ≡ k.focus
  pane : (q : ℕ) → m.pane q ≡ k.pane q

clients_kept : (o : Option ℕ) (k : Known) → Counts k (fold after k (line_of_count Clients o))
    × ((fold after k (line_of_count Clients o)).watchers ≡ k.watchers)
clients_kept None k = (record { focus = refl; pane = λ q. refl }, refl)
clients_kept (Some n) k = (record { focus = refl; pane = λ q. refl }, refl)

watchers_kept : (o : Option ℕ) (k : Known) → Counts k (fold after k (line_of_count Watchers o))
    × ((fold after k (line_of_count Watchers o)).clients ≡ k.clients)
watchers_kept None k = (record { focus = refl; pane = λ q. refl }, refl)
watchers_kept (Some n) k = (record { focus = refl; pane = λ q. refl }, refl)

is_some_as : (o a b : Option ℕ) → a ≡ b → IfSome o (λ n. a ≡ Some n) → IfSome o (λ n. b ≡ Some n)
is_some_as o a b e h = subst (λ (x : Option ℕ). IfSome o (λ n. x ≡ Some n)) e h

counts_arrive : (told now : PaneList) (k : Known) → k.clients ≡ told.clients → k.watchers ≡ told.watchers
    → (Counts k (fold after k (lines_of_counts told now))
    × IfSome now.clients (λ n. (fold after k (lines_of_counts told now)).clients ≡ Some n)
    × IfSome now.watchers (λ n. (fold after k (lines_of_counts told now)).watchers ≡ Some n))
counts_arrive told now k e f =
    let s = count_to_tell told.clients now.clients in
    let w = count_to_tell told.watchers now.watchers in
    let l = fold after k (line_of_count Clients s) in
    let one = clients_kept s k in
    let more = watchers_kept w l in
    let started : IfSome now.clients (λ n. l.clients ≡ Some n) =
    count_arrives told.clients now.clients k.clients e (λ (o : Option ℕ). (fold after k (line_of_count Clients o)).clients) (λ n. refl) refl in
    let watched : IfSome now.watchers (λ n. (fold after l (line_of_count Watchers w)).watchers ≡ Some n) =
    count_arrives told.watchers now.watchers l.watchers (one.1 ∙ f) (λ (o : Option ℕ). (fold after l (line_of_count Watchers o)).watchers)
    (λ n. refl) refl in
    subst (λ (m : Known). Counts k m × IfSome now.clients (λ n. m.clients ≡ Some n) × IfSome now.watchers (λ n. m.watchers ≡ Some n))
    (sym (fold-append after k (line_of_count Clients s) (line_of_count Watchers w))) (
      record { focus = more.0.focus ∙ one.0.focus; pane = λ q. more.0.pane q ∙ one.0.pane q },
      is_some_as now.clients l.clients (fold after l (line_of_count Watchers w)).clients (sym more.1) started,
      watched,
    )

counts_news : (told now : PaneList) (k : Known) → k.clients ≡ told.clients → k.watchers ≡ told.watchers → AreNews k (lines_of_counts told now)
counts_news told now k e f =
    let s = count_to_tell told.clients now.clients in
    let w = count_to_tell told.watchers now.watchers in
    let l = fold after k (line_of_count Clients s) in
    news_both (line_of_count Clients s) (line_of_count Watchers w) k (clients_told s k (count_news told.clients now.clients k.clients e))
    (watchers_told w l (count_news told.watchers now.watchers l.watchers ((clients_kept s k).1 ∙ f)))

-- ---- all

-- the knowledge of a subscriber that read of the panes, and then of the focus
abbrev after_panes : PaneList → PaneList → Known
after_panes told now = fold after (knows told) (lines_to 9 (pane_at told) (pane_at now))

abbrev after_focus : PaneList → PaneList → Known
after_focus told now = fold after (after_panes told now) (lines_of_focus told.focus now.focus)

panes_arrive : (told now : PaneList) → Reaches (pane_at told) (pane_at now) (knows told) 9 (after_panes told now)
panes_arrive told now = reaches (pane_at told) (pane_at now) (knows told) (λ p. refl) 9

focus_arrives : (told now : PaneList) → Focuses now.focus (after_panes told now) (after_focus told now)
focus_arrives told now =
    focus_known (eqb told.focus now.focus) (after_panes told now) told.focus now.focus (panes_arrive told now).rest.focus refl

-- the panes, the focus and the numbers of instances are read one after the other
read_on : (k : Known) (xs ys zs : List Line) → fold after k ((xs ++ ys) ++ zs) ≡ fold after (fold after (fold after k xs) ys) zs
read_on k xs ys zs = fold-append after k (xs ++ ys) zs ∙ ap (λ (m : Known). fold after m zs) (fold-append after k xs ys)

pub arrive : LinesArrive
arrive told now =
    let panes = panes_arrive told now in
    let focus = focus_arrives told now in
    let counts = counts_arrive told now (after_focus told now) (focus.clients ∙ panes.rest.clients) (focus.watchers ∙ panes.rest.watchers) in
    subst (λ (m : Known). Agrees m now)
    (sym (read_on (knows told) (lines_to 9 (pane_at told) (pane_at now)) (lines_of_focus told.focus now.focus) (lines_of_counts told now)))
    (record {
      panes = λ p one most. counts.0.pane p ∙ focus.pane p ∙ panes.low p one most;
      focus = counts.0.focus ∙ focus.focus;
      clients = counts.1;
      watchers = counts.2;
    })

pub are_news : LinesAreNews
are_news told now =
    let panes = panes_arrive told now in
    let focus = focus_arrives told now in
    let first = lines_to 9 (pane_at told) (pane_at now) in
    let then = lines_of_focus told.focus now.focus in
    let told_of_both = news_both first then (knows told) (all_news (pane_at told) (pane_at now) (knows told) (λ p. refl) 9)
    (focus_news (eqb told.focus now.focus) (after_panes told now) told.focus now.focus panes.rest.focus refl) in
    news_both (first ++ then) (lines_of_counts told now) (knows told) told_of_both
    (subst (λ (m : Known). AreNews m (lines_of_counts told now)) (sym (fold-append after (knows told) first then))
    (counts_news told now (after_focus told now) (focus.clients ∙ panes.rest.clients) (focus.watchers ∙ panes.rest.watchers)))

-- ---- the text of all

pub text_more : (p : ℕ) (told now : ℕ → Option ListedPane) → 1 ≤ p
    → lines_text (lines_to p told now) ≡ lines_text (lines_to (p - 1) told now) ++ lines_text (lines_for p (told p) (now p))
unfolding lines_to
text_more zero told now one = absurd (omega (arith, one))
text_more (suc n) told now one =
    let back : suc n - 1 ≡ n = omega arith in
    flat_map-append line_text (lines_to n told now) (lines_for (suc n) (told (suc n)) (now (suc n)))
    ∙ ap (λ m. lines_text (lines_to m told now) ++ lines_text (lines_for (suc n) (told (suc n)) (now (suc n)))) (sym back)
