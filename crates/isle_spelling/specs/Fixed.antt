-- The parts of a program's text that are the same for all programs, line by line.
use Rattle.std.specs.Prelude.{ℕ, List, [], ◌∷◌, ◌++◌, codes}
use Rattle.isle_printer.specs.Token.{Token, tokens_of}

-- each line, and its end
abbrev pub text_of : List (List ℕ) → List ℕ
text_of [] = []
text_of (line ∷ lines) = line ++ 10 ∷ text_of lines

-- what rustc is not to warn of
abbrev pub allow_lines : List (List ℕ)
allow_lines =
    codes "#![allow(dead_code, unreachable_code, unreachable_patterns)]"
    ∷ codes "#![allow(unused_imports, unused_variables, non_snake_case, unused_mut)]"
    ∷ codes "#![allow(irrefutable_let_patterns, unused_assignments, non_camel_case_types)]"
    ∷ []

-- the names that come from around the program
abbrev pub uses_lines : List (List ℕ)
uses_lines =
    codes "use super::*;"
    ∷ codes "use core::marker::PhantomData;"
    ∷ []

-- items that come one after another, each with a context
abbrev pub context_iter : List (List ℕ)
context_iter =
    codes "pub trait ContextIter {"
    ∷ codes "    type Context;"
    ∷ codes "    type Output;"
    ∷ codes "    fn next(&mut self, ctx: &mut Self::Context) -> Option<Self::Output>;"
    ∷ codes "    fn size_hint(&self) -> (usize, Option<usize>) { (0, None) }"
    ∷ codes "}"
    ∷ []

-- what can be turned into such items
abbrev pub into_context_iter : List (List ℕ)
into_context_iter =
    codes "pub trait IntoContextIter {"
    ∷ codes "    type Context;"
    ∷ codes "    type Output;"
    ∷ codes "    type IntoIter: ContextIter<Context = Self::Context, Output = Self::Output>;"
    ∷ codes "    fn into_context_iter(self) -> Self::IntoIter;"
    ∷ codes "}"
    ∷ []

-- what has a number of items
abbrev pub length : List (List ℕ)
length =
    codes "pub trait Length {"
    ∷ codes "    fn len(&self) -> usize;"
    ∷ codes "}"
    ∷ []

-- a vector has one
abbrev pub vec_length : List (List ℕ)
vec_length =
    codes "impl<T> Length for alloc::vec::Vec<T> {"
    ∷ codes "    fn len(&self) -> usize { alloc::vec::Vec::len(self) }"
    ∷ codes "}"
    ∷ []

-- an iterator or a list that stands for items with a context
abbrev pub wrapper : List (List ℕ)
wrapper =
    codes "pub struct ContextIterWrapper<I, C> {"
    ∷ codes "    iter: I,"
    ∷ codes "    _ctx: core::marker::PhantomData<C>,"
    ∷ codes "}"
    ∷ []

-- an empty one
abbrev pub wrapper_default : List (List ℕ)
wrapper_default =
    codes "impl<I: Default, C> Default for ContextIterWrapper<I, C> {"
    ∷ codes "    fn default() -> Self { ContextIterWrapper { iter: I::default(), _ctx: core::marker::PhantomData } }"
    ∷ codes "}"
    ∷ []

-- what is in it
abbrev pub wrapper_deref : List (List ℕ)
wrapper_deref =
    codes "impl<I, C> core::ops::Deref for ContextIterWrapper<I, C> {"
    ∷ codes "    type Target = I;"
    ∷ codes "    fn deref(&self) -> &I { &self.iter }"
    ∷ codes "}"
    ∷ []

-- what is in it, to change
abbrev pub wrapper_deref_mut : List (List ℕ)
wrapper_deref_mut =
    codes "impl<I, C> core::ops::DerefMut for ContextIterWrapper<I, C> {"
    ∷ codes "    fn deref_mut(&mut self) -> &mut I { &mut self.iter }"
    ∷ codes "}"
    ∷ []

-- one round an iterator
abbrev pub wrapper_from : List (List ℕ)
wrapper_from =
    codes "impl<I: Iterator, C: Context> From<I> for ContextIterWrapper<I, C> {"
    ∷ codes "    fn from(iter: I) -> Self { Self { iter, _ctx: core::marker::PhantomData } }"
    ∷ codes "}"
    ∷ []

-- its items are the iterator's
abbrev pub wrapper_iter : List (List ℕ)
wrapper_iter =
    codes "impl<I: Iterator, C: Context> ContextIter for ContextIterWrapper<I, C> {"
    ∷ codes "    type Context = C;"
    ∷ codes "    type Output = I::Item;"
    ∷ codes "    fn next(&mut self, _ctx: &mut Self::Context) -> Option<Self::Output> { self.iter.next() }"
    ∷ codes "    fn size_hint(&self) -> (usize, Option<usize>) { self.iter.size_hint() }"
    ∷ codes "}"
    ∷ []

-- its items are the list's
abbrev pub wrapper_into_iter : List (List ℕ)
wrapper_into_iter =
    codes "impl<I: IntoIterator, C: Context> IntoContextIter for ContextIterWrapper<I, C> {"
    ∷ codes "    type Context = C;"
    ∷ codes "    type Output = I::Item;"
    ∷ codes "    type IntoIter = ContextIterWrapper<I::IntoIter, C>;"
    ∷ codes "    fn into_context_iter(self) -> Self::IntoIter {"
    ∷ codes "        ContextIterWrapper { iter: self.iter.into_iter(), _ctx: core::marker::PhantomData }"
    ∷ codes "    }"
    ∷ codes "}"
    ∷ []

-- items at the end of its list
abbrev pub wrapper_extend : List (List ℕ)
wrapper_extend =
    codes "impl<T, E: Extend<T>, C> Extend<T> for ContextIterWrapper<E, C> {"
    ∷ codes "    fn extend<I: IntoIterator<Item = T>>(&mut self, iter: I) { self.iter.extend(iter); }"
    ∷ codes "}"
    ∷ []

-- the number of its list's items
abbrev pub wrapper_length : List (List ℕ)
wrapper_length =
    codes "impl<L: Length, C> Length for ContextIterWrapper<L, C> {"
    ∷ codes "    fn len(&self) -> usize { self.iter.len() }"
    ∷ codes "}"
    ∷ []

-- the fixed items, in order
abbrev pub fixed_lines : List (List ℕ)
fixed_lines =
    context_iter ++ (into_context_iter ++ (length ++ (vec_length ++ (wrapper ++ (wrapper_default ++ (wrapper_deref
    ++ (wrapper_deref_mut ++ (wrapper_from ++ (wrapper_iter ++ (wrapper_into_iter ++ (wrapper_extend ++ (wrapper_length))))))))))))

-- the tokens of the allow lines
unfoldable pub allow_tokens : List Token
allow_tokens = tokens_of (text_of allow_lines)

-- the tokens of the uses
unfoldable pub uses_tokens : List Token
uses_tokens = tokens_of (text_of uses_lines)

-- the tokens of the fixed items
unfoldable pub fixed_tokens : List Token
fixed_tokens = tokens_of (text_of fixed_lines)
