-- Lines taken one after the other.
use Rattle.std.proofs.Common.{◌≡◌, ℕ, List, [], ◌∷◌, ◌++◌, length, take, drop, Ok, Err, OnOk, Option, Result, refl, sym, ap, ◌∙◌, subst, append-nil, arith}
use Rattle.std.specs.Io.KnownBytes.{Appends, Keeps}
use Rattle.std.proofs.KnownBytes.{Appends-nil, Appends-kept}
use Rattle.std.proofs.lemmas.List.{length-take, length-append}
use Rattle.book.specs.Book.{Book}
use Rattle.book.specs.Questions.{Rules}
use Rattle.book.specs.Runs.{line, Exchange}
use Rattle.runs.proofs.Onwards.{goes_on}
use Rattle.hall.specs.Served.{printed, LineServed, LinesServed}

module _ {Done Error : Type 0} (rules : Rules) (before : Book) (page_length : ℕ) (after : Book) (output output_after : Option (List ℕ)) where
  one_line : (bytes : List ℕ) (done : Done) → LineServed {Error = Error} rules before bytes page_length after (Ok done) output output_after
      → LinesServed rules before (bytes ∷ []) page_length after output output_after
  one_line bytes done served =
      let exchange : Exchange = record { sent = line bytes page_length; back = served.back; book = after } in
      record {
        run = exchange ∷ [];
        runs = (served.serves, tt);
        ends = refl;
        sent = refl;
        prints = subst (Appends output output_after) (sym (append-nil (printed served.back))) served.prints;
        law = λ start earlier led. goes_on start earlier (exchange ∷ []) rules before after led (served.serves, tt) refl;
      }

  -- a line served, on a page of that length, is one line of a list
  pub one_taken : (writing : Result Done Error) (Taken : List ℕ → Type 0) (Rest Page : Type 0) → Rest → Page
      → (lent : ℕ) → lent ≡ page_length → ((bytes : List ℕ) → Taken bytes → LineServed rules before bytes lent after writing output output_after)
      → OnOk writing ((bytes : List ℕ) → Taken bytes → LinesServed rules before (bytes ∷ []) page_length after output output_after × Rest × Page)
  one_taken (Ok done) Taken Rest Page rest page lent same served = λ bytes taken.
      (one_line bytes done (subst (λ n. LineServed {Error = Error} rules before bytes n after (Ok done) output output_after) same (served bytes taken)), rest, page)
  one_taken (Err error) Taken Rest Page rest page lent same served = tt

-- where output stays, no line was taken
module _ {Done Error : Type 0} (rules : Rules) (book : Book) (page_length : ℕ) (output output_after : Option (List ℕ)) (kept : Keeps output output_after) where
  pub none_taken : (writing : Result Done Error) (Rest Page : Type 0) → Rest → Page → OnOk writing (LinesServed rules book [] page_length book output output_after × Rest × Page)
  none_taken (Ok done) Rest Page rest page = (
    record {
      run = [];
      runs = tt;
      ends = refl;
      sent = refl;
      prints = Appends-kept output output output_after [] (Appends-nil output) kept;
      law = λ start earlier led. goes_on start earlier [] rules book book led tt refl;
    },
    rest,
    page,
  )
  none_taken (Err error) Rest Page rest page = tt

-- a page that is lent, and comes back as long as it was
pub page_stays : (page lent lent_after : List ℕ) (page_length : ℕ) → page_length ≡ length page → lent ≡ page → length lent_after ≡ length lent
    → length (take page_length (lent_after ++ drop (length lent_after) page)) ≡ length page
page_stays page lent lent_after page_length is same long =
    length-take page_length (lent_after ++ drop (length lent_after) page)
    ∙ omega (arith, is, ap length same, long, length-append lent_after (drop (length lent_after) page))
