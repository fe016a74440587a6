-- What is stored at the start of a table, one element after another.
use Rattle.std.proofs.Math.ListN.{get_or-append}
use Rattle.std.proofs.Common.{◌++◌, ◌≡◌, ◌≢◌, ◌<◌, ◌≤◌, ◌+◌, ◌-◌, ◌*◌, ℕ, List, length, take, drop, get_or, set, ap, subst, sym, arith, refl, below_more, get_or-set_other, get_or-set_same, ◌∙◌}
use Rattle.std.proofs.lemmas.Grind.{drop_more_same}
use Rattle.std.proofs.lemmas.List.{drop-drop, drop-set-lt, take_rest}
use Rattle.object_files.specs.Headers.{IsOrder}
use Rattle.scroll.specs.Numbers.{number}
use Rattle.scroll.specs.declared.endian.Endian.{Endian}
use Rattle.scroll.specs.declared.endian.Endian.TheVariants.{Little, Big}
use Rattle.scroll_ffi.specs.Interface.{past, AreAll, AreFields, Fills, IsEntry, IsOpened, IsSection, HasLen, HasName}
use Rattle.scroll_ffi.specs.declared.elf.ScrollElfSection.{ScrollElfSection}
use Rattle.scroll_ffi.specs.declared.elf.ScrollElfSections.{ScrollElfSections}

-- one more is stored
pub stored_more : {X : Type 0} (P : ℕ → X → Type 0) (xs : List X) (i : ℕ) (x : X) → i < length xs
    → ((k : ℕ) (d : X) → k < i → P k (get_or xs k d)) → P i x
    → (k : ℕ) (d : X) → k < i + 1 → P k (get_or (set xs i x) k d)
stored_more P xs i x inside before here k d h =
    below_more (λ k. (d : _) → P k (get_or (set xs i x) k d)) i
    (λ k below d. let ne : k ≢ i = omega arith in rw get_or-set_other (before k d below))
    (λ d. rw get_or-set_same here)
    k h d

-- what is behind it is unchanged
pub rest_more : {X : Type 0} (xs ys : List X) (i : ℕ) (x : X) → drop i xs ≡ drop i ys
    → drop (i + 1) (set xs i x) ≡ drop (i + 1) ys
rest_more xs ys i x same =
    let behind : i < i + 1 = omega arith in
    drop-set-lt (i + 1) xs i x behind ∙ drop_more_same xs ys i same

-- an iterator that has passed none
pub past_none : (x : ScrollElfSections) → past 0 x ≡ x
past_none x =
    let left : x.left - 0 ≡ x.left = omega arith in
    let next : x.next + 64 * 0 ≡ x.next = omega arith in
    rw left (rw next refl)

-- the numbers of an entry, which are those at its offset in the file
pub are_fields_at : (order : Endian) (file : List ℕ) (at : ℕ) (s : ScrollElfSection)
    → AreFields order (drop at file) 0 s → AreFields order file at s
are_fields_at order file at s f = record {
  name = f.name;
  kind = f.kind ∙ ap (number order 4) (drop-drop 4 at file);
  flags = f.flags ∙ ap (number order 8) (drop-drop 8 at file);
  address = f.address ∙ ap (number order 8) (drop-drop 16 at file);
  offset = f.offset ∙ ap (number order 8) (drop-drop 24 at file);
  size = f.size ∙ ap (number order 8) (drop-drop 32 at file);
  link = f.link ∙ ap (number order 4) (drop-drop 40 at file);
  info = f.info ∙ ap (number order 4) (drop-drop 44 at file);
  alignment = f.alignment ∙ ap (number order 8) (drop-drop 48 at file);
  entry_size = f.entry_size ∙ ap (number order 8) (drop-drop 56 at file);
}

-- the next entry, from the bytes from there on
pub entry_at : (order : Endian) (file : List ℕ) (x : ScrollElfSections) (s : ScrollElfSection)
    → AreFields order (take (length file - x.next) (drop x.next file)) 0 s
    → IsOrder order x.order → x.next + 64 ≤ length file → IsEntry file x s
entry_at order file x s fields order-is room =
    record {
      order = order;
      order-is = order-is;
      room = room;
      fields =
          are_fields_at order file x.next s
          (subst (λ l. AreFields order l 0 s) (take_rest file x.next) fields);
    }

-- its name, from the bytes of the names
pub name_at : (file names : List ℕ) (x : ScrollElfSections) (s : ScrollElfSection) (name len : ℕ)
    → HasLen names name len
    → names ≡ take x.names_size (drop x.names_offset file) → s.name ≡ name → s.name_len ≡ len
    → s.name_offset ≡ x.names_offset + name → x.names_offset + x.names_size ≤ length file
    → HasName file x s
name_at file names x s name len has names-is name-is len-is start inside =
    let here : HasLen names s.name s.name_len =
    subst (λ n. HasLen names n s.name_len) (sym name-is)
    (subst (λ k. HasLen names name k) (sym len-is) has)
    in
    record {
      len = subst (λ l. HasLen l s.name s.name_len) names-is here;
      start = start ∙ ap (λ n. x.names_offset + n) (sym name-is);
      inside = inside;
    }

-- a number names one byte order
pub same_order : (a b : Endian) (n : ℕ) → IsOrder a n → IsOrder b n → a ≡ b
same_order Little Little n first second = refl
same_order Little Big n first second = absurd (omega (arith, first, second))
same_order Big Little n first second = absurd (omega (arith, first, second))
same_order Big Big n first second = refl

-- the number of its name, which is read first
pub same_name : (order : Endian) (file : List ℕ) (at : ℕ) (s : ScrollElfSection) (name : ℕ)
    → AreFields order (take (length file - at) (drop at file)) 0 s → name
    ≡ number order 4 (drop at file) → s.name ≡ name
same_name order file at s name fields read =
    fields.name ∙ ap (number order 4) (take_rest file at) ∙ sym read

-- the sections that are stored, in any table that begins with them
pub all_filled : (file : List ℕ) (n : ℕ) (x y : ScrollElfSections)
    (old new table : List ScrollElfSection)
    → IsOpened file x → Fills file n x y old new → n ≡ x.left
    → ((k : ℕ) (d : ScrollElfSection) → k < n → get_or table k d ≡ get_or new k d)
    → AreAll file n table
all_filled file n x y old new table is fills count same = record {
  opened = x;
  is = is;
  count = count;
  each = λ k d h. subst (λ s. IsSection file (past k x) s) (sym (same k d h)) (fills.each k d h);
}

-- all sections, with more behind them
pub all_before : (file : List ℕ) (n : ℕ) (table rest : List ScrollElfSection) → n ≤ length table
    → AreAll file n table → AreAll file n (table ++ rest)
all_before file n table rest inside h = record {
  opened = h.opened;
  is = h.is;
  count = h.count;
  each =
      λ k d less. subst (λ s. IsSection file (past k h.opened) s)
      (sym (get_or-append table rest d k (omega (arith, less, inside)))) (h.each k d less);
}
